use Rattle.slices.specs.Found.{Passed}
use Rattle.page.specs.Runs.{escapes?}
use Rattle.page.proofs.quote.plain_run.Given as goal

abbrev pub invariant-loop-i : goal.invariant-loop-i
invariant-loop-i l = Passed escapes? l.s l.i
