use borrow.Author.Rules.{rules}
use Rattle.plan.proofs.Composing.{built_is}
use Rattle.plan.proofs.component.build_of.Goals as goal

pub returns : goal.returns
returns c = search (rules, built_is)
