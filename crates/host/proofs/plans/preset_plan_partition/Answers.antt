use Rattle.laws.specs.Tests.{calls}
use Rattle.parse.proofs.Opening.{shut}
use Rattle.host.proofs.plans.preset_plan_partition.Goals as goal

pub returns-in_default : goal.returns-in_default
returns-in_default c = let h = shut _ _ c.in_default.ensures in search calls
