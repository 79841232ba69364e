-- No byte from the start to before i is a gap.
use Prim.Native.Nat.{◌-◌}
use lib.ListN.{length}
use Rattle.features.proofs.Gapping.{Running}
use Rattle.features.proofs.reader.stop.Given as goal

abbrev pub invariant-loop-i : goal.invariant-loop-i
invariant-loop-i l = Running l.s l.at l.i

abbrev pub decreases-loop-i : goal.decreases-loop-i
decreases-loop-i l = length l.s - l.i
