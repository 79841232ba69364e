-- None of the first k values of the block hangs under the parent.
use Rattle.tree.proofs.Skipping.{Idling}
use Prim.Native.Nat.{◌-◌}
use Rattle.tree.proofs.none_under.Given as goal

abbrev pub invariant-loop-k : goal.invariant-loop-k
invariant-loop-k l = Idling l.tree l.n l.parent l.k

abbrev pub decreases-loop-k : goal.decreases-loop-k
decreases-loop-k l = 8 - l.k
