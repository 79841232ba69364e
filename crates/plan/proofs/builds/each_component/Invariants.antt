-- The uses of the components met stand in the array, and with those to come they are those of all, up to 64.
use lib.ListN.{length}
use Rattle.tree.specs.Steps.{to_come}
use Rattle.plan.proofs.Building.{Gathering}
use Rattle.plan.proofs.builds.each_component.Given as goal

abbrev pub invariant-loop-step : goal.invariant-loop-step
invariant-loop-step l = Gathering l.rooms.tree.now l.rooms.store.now l.rooms.made l.place l.end l.items l.i l.w

abbrev pub decreases-loop-step : goal.decreases-loop-step
decreases-loop-step l = length (to_come l.rooms.tree.now l.w)
