use borrow.Author.Rules.{rules}
use Rattle.turns.proofs.Judging.{first_on, first_here, first_end, first_start}
use Rattle.turns.proofs.judge_marks.Goals as goal

pub loop-place-init : goal.loop-place-init
loop-place-init g c = search (rules, first_start)

pub returns-in-Err : goal.returns-in-Err
returns-in-Err g c = search (rules, first_here)

pub loop-place-preserved : goal.loop-place-preserved
loop-place-preserved g c = search (rules, first_on)

pub returns : goal.returns
returns g c = search (rules, first_end)
