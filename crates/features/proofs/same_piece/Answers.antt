use Rattle.features.proofs.Comparing.{piece_same}
use borrow.Author.Rules.{rules}
use Rattle.features.proofs.same_piece.Goals as goal

pub returns : goal.returns
returns c = search (rules, piece_same)
