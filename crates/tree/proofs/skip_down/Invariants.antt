-- From i on no value hangs under the parent.
use Rattle.tree.specs.Room.{Clear}
use Rattle.tree.proofs.skip_down.Given as goal

abbrev pub invariant-loop-i : goal.invariant-loop-i
invariant-loop-i l = Clear l.tree l.parent l.i l.made

abbrev pub decreases-loop-i : goal.decreases-loop-i
decreases-loop-i l = l.i
