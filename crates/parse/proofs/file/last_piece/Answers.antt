use borrow.Author.Rules.{rules}
use Rattle.parse.proofs.Filing.{seek_out, seek_on, seek_end, seek_start}
use Rattle.parse.proofs.file.last_piece.Goals as goal

pub loop-at-init : goal.loop-at-init
loop-at-init c = search (rules, seek_start)

pub returns-then-s-end : goal.returns-then-s-end
returns-then-s-end c = search (rules, seek_out)

pub loop-at-preserved : goal.loop-at-preserved
loop-at-preserved c = search (rules, seek_on)

pub returns : goal.returns
returns c = search (rules, seek_end)
