-- The string has not ended before i, so that nothing is found there and the count goes on from i.
use Rattle.text.proofs.Scans.{Quoting}
use Rattle.text.proofs.string_end.Given as goal

abbrev pub invariant-loop-i : goal.invariant-loop-i
invariant-loop-i l = Quoting l.s l.i l.state
