-- The bytes before i are white space, and each step takes one white character more, until one is none.
use Rattle.chars.specs.Trimmed.{Starting}
use lib.ListN.{length}
use Prim.Native.Nat.{◌-◌}
use Rattle.chars.proofs.trim_start.Given as goal

abbrev pub invariant-loop-i : goal.invariant-loop-i
invariant-loop-i l = Starting l.s l.i

abbrev pub decreases-loop-i : goal.decreases-loop-i
decreases-loop-i l = length l.s - l.i
