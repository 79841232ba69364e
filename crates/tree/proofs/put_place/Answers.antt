use Rattle.tree.proofs.Cells.{linked}
use borrow.Author.Rules.{rules}
use Rattle.tree.proofs.put_place.Goals as goal

pub returns : goal.returns
returns c = search (rules, linked)
