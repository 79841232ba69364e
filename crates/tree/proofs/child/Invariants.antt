-- Below n no value from the start on hangs under the parent, so the first met from there is the first of all.
use Rattle.tree.proofs.Walks.{Walking}
use Prim.Native.Nat.{◌-◌}
use Rattle.tree.proofs.child.Given as goal

abbrev pub invariant-loop-n : goal.invariant-loop-n
invariant-loop-n l = Walking l.tree l.made l.parent l.from l.n

abbrev pub decreases-loop-n : goal.decreases-loop-n
decreases-loop-n l = l.made - l.n
