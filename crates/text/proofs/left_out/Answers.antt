use borrow.Author.Rules.{rules}
use Rattle.text.proofs.Runs.{run_on}
use Rattle.text.proofs.left_out.Goals as goal

pub loop-i-preserved : goal.loop-i-preserved
loop-i-preserved c = search (rules, run_on)
