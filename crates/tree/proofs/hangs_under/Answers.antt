use Rattle.tree.proofs.Walks.{under_is}
use borrow.Author.Rules.{rules}
use Rattle.tree.proofs.hangs_under.Goals as goal

pub returns : goal.returns
returns c = search (rules, under_is)
