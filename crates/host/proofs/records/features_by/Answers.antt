-- The place is below 65536 where it is cast, so it loses nothing; the other tests are those of the definition.
use Rattle.laws.specs.Tests.{tests}
use Rattle.host.specs.Records.{features_by}
use Rattle.host.proofs.records.features_by.Goals as goal

pub returns-then-kind-eq1 : goal.returns-then-kind-eq1
unfolding features_by
returns-then-kind-eq1 c = search tests

pub returns-then-from-lt-PLACES : goal.returns-then-from-lt-PLACES
unfolding features_by
returns-then-from-lt-PLACES c = search tests

pub returns-then-kind-eq2 : goal.returns-then-kind-eq2
unfolding features_by
returns-then-kind-eq2 c = search tests

pub returns : goal.returns
unfolding features_by
returns c = search tests
