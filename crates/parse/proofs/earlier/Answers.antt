use Rattle.laws.specs.Tests.{tests}
use Rattle.parse.proofs.earlier.Goals as goal

pub returns-then-a-eq0 : goal.returns-then-a-eq0
returns-then-a-eq0 c = search tests

pub returns : goal.returns
returns c = search tests
