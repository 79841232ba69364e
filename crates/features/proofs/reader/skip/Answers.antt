use borrow.Author.Rules.{rules}
use Rattle.features.proofs.Gapping.{skip_on, skip_hit, skip_end}
use Rattle.features.proofs.reader.skip.Goals as goal

pub loop-i-preserved : goal.loop-i-preserved
loop-i-preserved c = search (rules, skip_on)

pub returns-else-is_gap : goal.returns-else-is_gap
returns-else-is_gap c = search (rules, skip_hit)

pub returns : goal.returns
returns c = search (rules, skip_end)
