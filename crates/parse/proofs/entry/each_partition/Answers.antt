use borrow.Author.Rules.{rules}
use Rattle.parse.proofs.Entering.{parts_on}
use Rattle.parse.proofs.entry.each_partition.Goals as goal

pub loop-step-preserved : goal.loop-step-preserved
loop-step-preserved c = search (rules, parts_on)
