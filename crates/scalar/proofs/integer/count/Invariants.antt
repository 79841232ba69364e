-- Acc is the value of the digits before b, within the limit, and the rest goes on from it.
use Rattle.scalar.proofs.Integers.{Counting}
use Rattle.scalar.proofs.integer.count.Given as goal

abbrev pub invariant-loop-b : goal.invariant-loop-b
invariant-loop-b l = Counting l.s l.base l.limit l.b-index l.acc
