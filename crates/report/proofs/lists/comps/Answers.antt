use borrow.Author.Rules.{rules}
use Rattle.report.proofs.Listing.{items_start, comps_on, comps_hold, comps_stood}
use Rattle.report.proofs.lists.comps.Goals as goal

pub loop-step-init : goal.loop-step-init
loop-step-init c = search (rules, items_start)

pub component-x-requires : goal.component-x-requires
component-x-requires c = search (rules, comps_stood)

pub loop-step-preserved : goal.loop-step-preserved
loop-step-preserved c = search (rules, comps_on)

pub next_item-requires : goal.next_item-requires
next_item-requires c = search (rules, comps_hold)
