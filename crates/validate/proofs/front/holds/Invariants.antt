-- The word starts at no place before this one, so it stands in the text where it stands in the rest.
use Prim.Native.Nat.{◌-◌}
use lib.ListN.{length}
use Rattle.validate.proofs.Fronting.{Holding}
use Rattle.validate.proofs.front.holds.Given as goal

abbrev pub invariant-loop-i : goal.invariant-loop-i
invariant-loop-i l = Holding l.w l.s l.i

abbrev pub decreases-loop-i : goal.decreases-loop-i
decreases-loop-i l = length l.s - l.i
