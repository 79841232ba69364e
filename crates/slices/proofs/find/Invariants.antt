-- None of the bytes passed over is the one looked for, so the first that fits is the first of all.
use Rattle.slices.specs.Found.{at?, Passed}
use Rattle.slices.proofs.find.Given as goal

abbrev pub invariant-loop-i : goal.invariant-loop-i
invariant-loop-i l = Passed (at? l.c) l.s l.i
