use borrow.Author.Rules.{rules}
use Rattle.parse.proofs.Filing.{closed_here, closed_past}
use Rattle.parse.proofs.file.closed.Goals as goal

pub returns-then-is_piece : goal.returns-then-is_piece
returns-then-is_piece c = search (rules, closed_here)

pub returns : goal.returns
returns c = search (rules, closed_past)
