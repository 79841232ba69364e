-- What is used of the scratch holds the lines before the rest, and the rest is laid after them.
use Rattle.text.proofs.Laying.{Laying}
use lib.ListN.{length}
use Rattle.text.proofs.lay.Given as goal

abbrev pub invariant-loop-rest : goal.invariant-loop-rest
invariant-loop-rest l = Laying l.text l.initial.scratch l.scratch l.rest l.used

abbrev pub decreases-loop-rest : goal.decreases-loop-rest
decreases-loop-rest l = length l.rest
