use borrow.Author.Rules.{rules}
use Rattle.slices.proofs.Bytes.{free_on}
use Rattle.slices.proofs.none_of_16.Goals as goal

pub loop-k-preserved : goal.loop-k-preserved
loop-k-preserved c = search (rules, free_on)
