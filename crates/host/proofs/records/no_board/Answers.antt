use Rattle.host.proofs.Viewing.{board_none}
use borrow.Author.Rules.{rules}
use Rattle.host.proofs.records.no_board.Goals as goal

pub returns : goal.returns
returns c = search (rules, board_none)
