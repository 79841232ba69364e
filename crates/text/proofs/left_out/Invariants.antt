-- Each byte before i is quiet.
use Rattle.text.specs.Runs.{Run}
use Rattle.text.proofs.left_out.Given as goal

abbrev pub invariant-loop-i : goal.invariant-loop-i
invariant-loop-i l = Run l.state l.s l.i
