use Rattle.tree.proofs.Cells.{mark_second, marked}
use borrow.Author.Rules.{rules}
use Rattle.tree.proofs.put_kind.Goals as goal

pub bounds-tree-at-2 : goal.bounds-tree-at-2
bounds-tree-at-2 c = search (rules, mark_second)

pub returns : goal.returns
returns c = search (rules, marked)
