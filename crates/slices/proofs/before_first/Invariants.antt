-- No block passed over has the byte, so the first one stands after them.
use Prim.Native.Nat.{◌*◌}
use Rattle.slices.specs.Found.{at?, Passed}
use Rattle.slices.proofs.before_first.Given as goal

abbrev pub invariant-loop-k : goal.invariant-loop-k
invariant-loop-k l = Passed (at? l.c) l.s (16 * l.k)
