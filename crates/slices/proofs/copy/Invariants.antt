-- The first bytes are laid and the others as they were, so that one byte more is laid at each turn.
use Rattle.slices.proofs.Bytes.{Laid}
use Rattle.slices.proofs.copy.Given as goal

abbrev pub invariant-loop-i : goal.invariant-loop-i
invariant-loop-i l = Laid l.src l.initial.dst l.dst l.i
