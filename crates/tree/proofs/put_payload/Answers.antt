use Rattle.tree.proofs.Cells.{filled}
use borrow.Author.Rules.{rules}
use Rattle.tree.proofs.put_payload.Goals as goal

pub returns : goal.returns
returns c = search (rules, filled)
