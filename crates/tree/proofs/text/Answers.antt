-- Data over 32 bits give nothing; else start and length are below 65,536, their sum is exact, and the size decides.
use Rattle.tree.specs.Doors.{text_of}
use Rattle.laws.specs.Tests.{tests}
use Rattle.tree.proofs.text.Goals as goal

pub returns-then-bits-gt-STRING_MOST : goal.returns-then-bits-gt-STRING_MOST
unfolding text_of
returns-then-bits-gt-STRING_MOST c = search tests

pub returns-then-size-from : goal.returns-then-size-from
unfolding text_of
returns-then-size-from c = search tests

pub returns : goal.returns
unfolding text_of
returns c = search tests
