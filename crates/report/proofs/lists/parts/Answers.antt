use borrow.Author.Rules.{rules}
use Rattle.report.proofs.Listing.{items_start, parts_on}
use Rattle.report.proofs.lists.parts.Goals as goal

pub loop-step-init : goal.loop-step-init
loop-step-init c = search (rules, items_start)

pub loop-step-preserved : goal.loop-step-preserved
loop-step-preserved c = search (rules, parts_on)
