use Rattle.laws.specs.Tests.{tests}
use Rattle.validate.specs.Faults.{counted_fault}
use Rattle.validate.proofs.check_components.Goals as goal

pub returns-then-count-eq0 : goal.returns-then-count-eq0
unfolding counted_fault
returns-then-count-eq0 c = search tests

pub returns : goal.returns
unfolding counted_fault
returns c = search tests
