-- The bytes before i are whole characters, so the text is valid where the rest from i on is.
use Prim.Native.Nat.{◌-◌}
use lib.ListN.{length}
use Rattle.chars.proofs.Spaces.{Checking}
use Rattle.chars.proofs.valid.Given as goal

abbrev pub invariant-loop-i : goal.invariant-loop-i
invariant-loop-i l = Checking l.s l.i

abbrev pub decreases-loop-i : goal.decreases-loop-i
decreases-loop-i l = length l.s - l.i
