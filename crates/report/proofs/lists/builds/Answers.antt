use borrow.Author.Rules.{rules}
use Rattle.report.proofs.Listing.{left_start, builds_on}
use Rattle.report.proofs.lists.builds.Goals as goal

pub loop-i-init : goal.loop-i-init
loop-i-init c = search (rules, left_start)

pub loop-i-preserved : goal.loop-i-preserved
loop-i-preserved c = search (rules, builds_on)
