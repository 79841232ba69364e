use Rattle.features.proofs.Choosing.{piece_is, piece_not}
use borrow.Author.Rules.{rules}
use Rattle.features.proofs.piece_of.Goals as goal

pub returns-in-Text : goal.returns-in-Text
returns-in-Text c = search (rules, piece_is)

pub returns-in_default : goal.returns-in_default
returns-in_default c = search (rules, piece_not)
