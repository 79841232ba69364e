use Rattle.host.proofs.Plotting.{head_planned}
use borrow.Author.Rules.{rules}
use Rattle.host.proofs.plans.preset_plan_head.Goals as goal

pub returns : goal.returns
returns c = search (rules, head_planned)
