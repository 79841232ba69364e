-- Which of the two texts is returned is told by the test that the definition asks: whether the bytes are UTF-8.
use Rattle.laws.specs.Tests.{calls}
use Rattle.parse.specs.Refused.{lent_text}
use Rattle.parse.proofs.lent_name.Goals as goal

pub returns-then-valid : goal.returns-then-valid
unfolding lent_text
returns-then-valid c = search calls

pub returns : goal.returns
unfolding lent_text
returns c = search calls
