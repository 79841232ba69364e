use Rattle.host.proofs.Recording.{plan_is}
use borrow.Author.Rules.{rules}
use Rattle.host.proofs.plans.preset_plan.Goals as goal

pub returns : goal.returns
returns c = search (rules, plan_is)
