use borrow.Author.Rules.{rules}
use Rattle.values.proofs.Parting.{part_on}
use Rattle.values.proofs.splitting.item.Goals as goal

pub loop-i-preserved : goal.loop-i-preserved
loop-i-preserved c = search (rules, part_on)
