use borrow.Author.Rules.{rules}
use Rattle.slices.proofs.Bytes.{past_on}
use Rattle.page.proofs.quote.plain_blocks.Goals as goal

pub loop-i-preserved : goal.loop-i-preserved
loop-i-preserved c = search (rules, past_on)
