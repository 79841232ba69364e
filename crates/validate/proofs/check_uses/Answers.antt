use Rattle.laws.specs.Tests.{tests}
use Rattle.validate.proofs.check_uses.Goals as goal

pub returns-in-None : goal.returns-in-None
returns-in-None c = search tests

pub returns-in-Some : goal.returns-in-Some
returns-in-Some c = search tests

pub returns-in-Some-2 : goal.returns-in-Some-2
returns-in-Some-2 c = search tests
