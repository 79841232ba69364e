use Rattle.slices.proofs.Bytes.{Freeing}
use Rattle.page.specs.Runs.{escapes?}
use Rattle.page.proofs.quote.plain_16.Given as goal

abbrev pub invariant-loop-k : goal.invariant-loop-k
invariant-loop-k l = Freeing escapes? l.s l.at l.k l.r
