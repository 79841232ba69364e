use borrow.Author.Rules.{rules}
use borrow.Author.Tests.{not-false}
use Rattle.features.proofs.Stepping.{step_less}
use Rattle.features.proofs.Comparing.{pair_start, pair_on}
use Rattle.features.proofs.same_as_written.Goals as goal

pub loop-r-init : goal.loop-r-init
loop-r-init c = search (rules, pair_start)

pub loop-r-smaller : goal.loop-r-smaller
loop-r-smaller c = search (rules, step_less)

pub loop-r-preserved : goal.loop-r-preserved
loop-r-preserved c = search (rules, not-false, pair_on)
