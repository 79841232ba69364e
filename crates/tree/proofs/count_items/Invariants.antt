-- Of the first i values n hang under the parent.
use Rattle.tree.proofs.Walks.{Counting}
use Prim.Native.Nat.{◌-◌}
use Rattle.tree.proofs.count_items.Given as goal

abbrev pub invariant-loop-i : goal.invariant-loop-i
invariant-loop-i l = Counting l.tree l.made l.parent l.n l.i

abbrev pub decreases-loop-i : goal.decreases-loop-i
decreases-loop-i l = l.made - l.i
