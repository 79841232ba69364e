-- No dot stands after the first i bytes, so the last among these is the last of all.
use Rattle.plan.proofs.Stemming.{Backward}
use Rattle.plan.proofs.stem.last_dot.Given as goal

abbrev pub invariant-loop-i : goal.invariant-loop-i
invariant-loop-i l = Backward l.s l.i

abbrev pub decreases-loop-i : goal.decreases-loop-i
decreases-loop-i l = l.i
