-- The bytes from e on are white space, and each step takes one white character more, until one is none.
use Rattle.chars.specs.Trimmed.{Ending}
use Rattle.chars.proofs.trim_end.Given as goal

abbrev pub invariant-loop-e : goal.invariant-loop-e
invariant-loop-e l = Ending l.s l.e

abbrev pub decreases-loop-e : goal.decreases-loop-e
decreases-loop-e l = l.e
