-- The segments before the rest are taken and laid, and the parts of the rest decide what the key comes to.
use Rattle.scalar.proofs.Splitting.{Splitting}
use Rattle.scalar.proofs.key.put_key.Given as goal

abbrev pub invariant-loop-n : goal.invariant-loop-n
invariant-loop-n l = Splitting l.s l.initial.store l.used l.limit l.store l.taken l.n l.rest
