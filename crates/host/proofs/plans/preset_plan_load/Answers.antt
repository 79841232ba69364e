use Rattle.host.proofs.Plotting.{load_planned}
use borrow.Author.Rules.{rules}
use Rattle.host.proofs.plans.preset_plan_load.Goals as goal

pub returns : goal.returns
returns c = search (rules, load_planned)
