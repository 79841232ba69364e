use borrow.Author.Rules.{rules}
use Rattle.parse.proofs.Entering.{nth_on}
use Rattle.parse.proofs.entry.nth_key.Goals as goal

pub loop-step-preserved : goal.loop-step-preserved
loop-step-preserved c = search (rules, nth_on)
