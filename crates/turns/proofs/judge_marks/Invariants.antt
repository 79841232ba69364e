-- The twin is known, and no entry before this one has a fault, so the first fault that is met is the first of all.
use Prim.Native.Nat.{◌-◌}
use lib.ListN.{length}
use Rattle.turns.proofs.Judging.{Faulting}
use Rattle.turns.proofs.judge_marks.Given as goal

abbrev pub invariant-loop-place : goal.invariant-loop-place
invariant-loop-place g l = Faulting l.twice l.bytes l.twin l.entries l.place

abbrev pub decreases-loop-place : goal.decreases-loop-place
decreases-loop-place g l = length l.entries - l.place
