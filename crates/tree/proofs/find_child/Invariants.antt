-- What is sought is not above i, so it is found among the values below, a block at a time.
use Rattle.tree.proofs.Skipping.{Looking}
use Rattle.tree.proofs.find_child.Given as goal

abbrev pub invariant-loop-i : goal.invariant-loop-i
invariant-loop-i l = Looking l.tree l.store l.key l.made l.parent l.i

abbrev pub decreases-loop-i : goal.decreases-loop-i
decreases-loop-i l = l.i
