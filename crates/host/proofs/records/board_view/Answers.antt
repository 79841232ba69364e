use Rattle.host.proofs.Viewing.{board_refused, board_told}
use borrow.Author.Rules.{rules}
use Rattle.host.proofs.records.board_view.Goals as goal

pub returns-then-fault-ne0 : goal.returns-then-fault-ne0
returns-then-fault-ne0 c = search (rules, board_refused)

pub returns : goal.returns
returns c = search (rules, board_told)
