-- From the start to before n no value hangs under the parent.
use Rattle.tree.proofs.Skipping.{Rising}
use Prim.Native.Nat.{◌-◌}
use Rattle.tree.proofs.skip_up.Given as goal

abbrev pub invariant-loop-n : goal.invariant-loop-n
invariant-loop-n l = Rising l.tree l.made l.parent l.from l.n

abbrev pub decreases-loop-n : goal.decreases-loop-n
decreases-loop-n l = l.made - l.n
