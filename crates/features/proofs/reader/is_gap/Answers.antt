-- A space is a gap by the first test, and of any other byte the test for a comma decides, as in the definition.
use Rattle.laws.specs.Tests.{tests}
use Rattle.meaning.specs.Features.{gap}
use Rattle.features.proofs.reader.is_gap.Goals as goal

pub returns-then-b-eq32 : goal.returns-then-b-eq32
unfolding gap
returns-then-b-eq32 c = search tests

pub returns : goal.returns
unfolding gap
returns c = search tests
