use borrow.Author.Rules.{rules}
use Rattle.text.proofs.Joining.{count_start, count_out, count_lf, count_on}
use Rattle.text.proofs.count_line.Goals.{then-s-end-via-then-s-end, then-s-end-via-else-s-end+then-s-end-eq10}
use Rattle.text.proofs.count_line.Goals as goal

pub loop-end-init : goal.loop-end-init
loop-end-init c = search (rules, count_start)

pub returns-then-s-end : goal.returns-then-s-end
returns-then-s-end c =
    elim c.then-s-end.branch [ then-s-end-via-then-s-end w ↦ search (rules, count_out) | then-s-end-via-else-s-end+then-s-end-eq10 w ↦ search (rules, count_lf) ]

pub loop-end-preserved : goal.loop-end-preserved
loop-end-preserved c = search (rules, count_on)
