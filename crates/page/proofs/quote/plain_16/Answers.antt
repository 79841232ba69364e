use borrow.Author.Rules.{rules}
use Rattle.slices.proofs.Bytes.{free_on}
use Rattle.page.proofs.quote.plain_16.Goals as goal

pub loop-k-preserved : goal.loop-k-preserved
loop-k-preserved c = search (rules, free_on)
