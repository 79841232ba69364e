-- None of the i components met has a partition, so as many more stand before the first that has one as stand before it among those to come.
use lib.ListN.{length}
use Rattle.tree.specs.Steps.{to_come}
use Rattle.plan.proofs.Composing.{Counting}
use Rattle.plan.proofs.component.before_first_placed.Given as goal

abbrev pub invariant-loop-step : goal.invariant-loop-step
invariant-loop-step l = Counting l.rooms.tree.now l.rooms.store.now l.rooms.made l.initial.w l.i l.w

abbrev pub decreases-loop-step : goal.decreases-loop-step
decreases-loop-step l = length (to_come l.rooms.tree.now l.w)
