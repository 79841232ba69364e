-- No component met so far leads, so the first among those to come is the first of all.
use lib.ListN.{length}
use Rattle.tree.specs.Steps.{to_come}
use Rattle.plan.specs.Stems.{first_with, leads}
use Rattle.plan.proofs.Walking.{Left}
use Rattle.plan.proofs.stem.leader.Given as goal

abbrev pub invariant-loop-step : goal.invariant-loop-step
invariant-loop-step l = Left (first_with (leads l.rooms.tree.now l.rooms.store.now l.rooms.made)) l.rooms.tree.now l.initial.w l.w

abbrev pub decreases-loop-step : goal.decreases-loop-step
decreases-loop-step l = length (to_come l.rooms.tree.now l.w)
