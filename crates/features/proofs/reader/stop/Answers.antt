use borrow.Author.Rules.{rules}
use Rattle.features.proofs.Gapping.{run_on, run_hit, run_end}
use Rattle.features.proofs.reader.stop.Goals as goal

pub returns-then-is_gap : goal.returns-then-is_gap
returns-then-is_gap c = search (rules, run_hit)

pub loop-i-preserved : goal.loop-i-preserved
loop-i-preserved c = search (rules, run_on)

pub returns : goal.returns
returns c = search (rules, run_end)
