-- The lines before p are blank, so the next joined line is the next one from p on.
use Rattle.text.proofs.Walking.{Skipping}
use lib.ListN.{length}
use Prim.Native.Nat.{◌-◌}
use Rattle.text.proofs.skip.Given as goal

abbrev pub invariant-loop-p : goal.invariant-loop-p
invariant-loop-p l = Skipping l.s l.at l.line l.p

abbrev pub decreases-loop-p : goal.decreases-loop-p
decreases-loop-p l = length l.s - l.p.at
