-- The marks made so far are those of the first i partitions, and the last of these ends where the next is measured from.
use Prim.Native.Nat.{◌-◌}
use lib.ListN.{length}
use Rattle.layout.proofs.Marking.{Made}
use Rattle.layout.proofs.marks_of.Given as goal

abbrev pub invariant-loop-i : goal.invariant-loop-i
invariant-loop-i l = Made l.bytes l.block l.items l.entries l.end l.i

abbrev pub decreases-loop-i : goal.decreases-loop-i
decreases-loop-i l = length l.items - l.i
