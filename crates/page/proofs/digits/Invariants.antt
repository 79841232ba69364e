-- The digits laid so far, after those of what is left of the number, are the digits of the number.
use Rattle.page.proofs.Decimals.{Spelling}
use Rattle.page.proofs.digits.Given as goal

abbrev pub invariant-loop-n : goal.invariant-loop-n
invariant-loop-n l = Spelling l.number l.room l.n l.i

abbrev pub decreases-loop-n : goal.decreases-loop-n
decreases-loop-n l = l.i
