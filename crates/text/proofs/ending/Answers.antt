-- The definition asks the same of m.
use Rattle.laws.specs.Tests.{tests}
use Rattle.text.specs.Walk.{ending}
use Rattle.text.proofs.ending.Goals as goal

pub returns-then-m-eq1 : goal.returns-then-m-eq1
unfolding ending
returns-then-m-eq1 c = search tests

pub returns-else-m-eq1 : goal.returns-else-m-eq1
unfolding ending
returns-else-m-eq1 c = search tests
