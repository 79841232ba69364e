-- All bytes from e on are spaces, so the trimmed text ends no later.
use Rattle.chars.specs.Trimmed.{Ending}
use Rattle.chars.proofs.before_spaces.Given as goal

abbrev pub invariant-loop-e : goal.invariant-loop-e
invariant-loop-e l = Ending l.s l.e
