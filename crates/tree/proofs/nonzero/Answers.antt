use Rattle.laws.specs.Tests.{tests}
use Rattle.tree.proofs.nonzero.Goals as goal

pub returns-then-n-eq0 : goal.returns-then-n-eq0
returns-then-n-eq0 c = search tests

pub returns : goal.returns
returns c = search tests
