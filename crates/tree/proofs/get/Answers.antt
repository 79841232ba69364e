use Rattle.tree.proofs.Cells.{got}
use borrow.Author.Rules.{rules}
use Rattle.tree.proofs.get.Goals as goal

pub returns : goal.returns
returns c = search (rules, got)
