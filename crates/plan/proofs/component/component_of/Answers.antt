use borrow.Author.Rules.{rules}
use Rattle.plan.proofs.Composing.{component_of_is}
use Rattle.plan.proofs.component.component_of.Goals as goal

pub returns : goal.returns
returns c = search (rules, component_of_is)
