-- The best of the values from i on stays the best of all once the values below it are seen; below low none counts.
use Rattle.tree.proofs.Ranking.{Nearing}
use Rattle.tree.proofs.nearest.Given as goal

abbrev pub invariant-loop-i : goal.invariant-loop-i
invariant-loop-i l = Nearing l.tree l.store l.made l.parent l.after l.best l.i

abbrev pub decreases-loop-i : goal.decreases-loop-i
decreases-loop-i l = l.i
