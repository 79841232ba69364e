-- What is left to pass from here on gives what all of it gives.
use Rattle.tree.proofs.Opening.{Passing}
use Prim.Native.Nat.{◌-◌}
use Rattle.tree.proofs.nth_item.Given as goal

abbrev pub invariant-loop-from : goal.invariant-loop-from
invariant-loop-from l = Passing l.tree l.made l.parent l.i l.left l.from

abbrev pub decreases-loop-from : goal.decreases-loop-from
decreases-loop-from l = l.made - l.from
