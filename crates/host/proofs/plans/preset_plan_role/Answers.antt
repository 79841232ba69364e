use Rattle.host.proofs.Plotting.{role_planned}
use borrow.Author.Rules.{rules}
use Rattle.host.proofs.plans.preset_plan_role.Goals as goal

pub returns : goal.returns
returns c = search (rules, role_planned)
