-- From i on no value hangs under the parent, so the newest below i is the newest of all.
use Rattle.tree.proofs.Opening.{Sinking}
use Rattle.tree.proofs.newest.Given as goal

abbrev pub invariant-loop-i : goal.invariant-loop-i
invariant-loop-i l = Sinking l.tree l.made l.parent l.i

abbrev pub decreases-loop-i : goal.decreases-loop-i
decreases-loop-i l = l.i
