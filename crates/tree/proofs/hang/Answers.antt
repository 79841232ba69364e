use Rattle.tree.proofs.Cells.{hung_up}
use borrow.Author.Rules.{rules}
use Rattle.tree.proofs.hang.Goals as goal

pub returns : goal.returns
returns c = search (rules, hung_up)
