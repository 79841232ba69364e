-- All bytes from the start to before i are gaps.
use Prim.Native.Nat.{◌-◌}
use lib.ListN.{length}
use Rattle.features.proofs.Gapping.{Skipping}
use Rattle.features.proofs.reader.skip.Given as goal

abbrev pub invariant-loop-i : goal.invariant-loop-i
invariant-loop-i l = Skipping l.s l.at l.i

abbrev pub decreases-loop-i : goal.decreases-loop-i
decreases-loop-i l = length l.s - l.i
