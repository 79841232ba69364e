-- A hit is gathered and never lost: there is none only if every byte is another.
use Rattle.slices.specs.Found.{at?}
use Rattle.slices.proofs.Bytes.{Freeing}
use Rattle.slices.proofs.none_of_16.Given as goal

abbrev pub invariant-loop-k : goal.invariant-loop-k
invariant-loop-k l = Freeing (at? l.c) l.s l.at l.k l.r
