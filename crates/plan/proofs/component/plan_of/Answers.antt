use borrow.Author.Rules.{rules}
use Rattle.plan.proofs.Composing.{planned_is}
use Rattle.plan.proofs.component.plan_of.Goals as goal

pub returns : goal.returns
returns c = search (rules, planned_is)
