use borrow.Author.Rules.{rules}
use Rattle.slices.proofs.Bytes.{laid_start, laid_on, laid_end}
use Rattle.slices.proofs.copy.Goals as goal

pub loop-i-init : goal.loop-i-init
loop-i-init c = search (rules, laid_start)

pub loop-i-preserved : goal.loop-i-preserved
loop-i-preserved c = search (rules, laid_on)

pub returns : goal.returns
returns c = search (rules, laid_end)
