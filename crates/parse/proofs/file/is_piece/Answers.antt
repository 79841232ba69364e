use borrow.Author.Rules.{rules}
use Rattle.parse.proofs.Filing.{piece_empty, piece_dot, piece_is}
use Rattle.parse.proofs.file.is_piece.Goals as goal

pub returns-then-p-eq0 : goal.returns-then-p-eq0
returns-then-p-eq0 c = search (rules, piece_empty)

pub returns-then-same : goal.returns-then-same
returns-then-same c = search (rules, piece_dot)

pub returns : goal.returns
returns c = search (rules, piece_is)
