use Rattle.tree.proofs.Opening.{value_is}
use borrow.Author.Rules.{rules}
use Rattle.tree.proofs.value_at.Goals as goal

pub returns : goal.returns
returns c = search (rules, value_is)
