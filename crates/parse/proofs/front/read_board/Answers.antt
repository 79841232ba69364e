use borrow.Author.Rules.{rules}
use Rattle.parse.proofs.Fronting.{board_is}
use Rattle.parse.proofs.front.read_board.Goals as goal

pub returns : goal.returns
returns c = search (rules, board_is)
