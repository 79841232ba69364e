-- The lines of the partitions met stand on the page, and with those to come they are the lines of all.
use lib.ListN.{length}
use Rattle.tree.specs.Steps.{to_come}
use Rattle.report.specs.Shown as shown
use Rattle.report.proofs.Listing.{Walked}
use Rattle.report.proofs.lists.parts.Given as goal

abbrev pub invariant-loop-step : goal.invariant-loop-step
invariant-loop-step l = Walked (shown.part_at l.rooms.tree.now l.rooms.store.now l.rooms.made) l.rooms.tree.now l.initial.w l.initial.page l.w l.page

abbrev pub decreases-loop-step : goal.decreases-loop-step
decreases-loop-step l = length (to_come l.rooms.tree.now l.w)
