-- No component met so far has the name, so one has it where one of those to come has it.
use lib.ListN.{length}
use Rattle.tree.specs.Steps.{to_come}
use Rattle.turns.specs.Marks.{any_of}
use Rattle.plan.specs.Choices.{named}
use Rattle.plan.proofs.Walking.{Left}
use Rattle.plan.proofs.choice.is_component_name.Given as goal

abbrev pub invariant-loop-step : goal.invariant-loop-step
invariant-loop-step l = Left (any_of (named l.rooms.tree.now l.rooms.store.now l.rooms.made l.name)) l.rooms.tree.now l.initial.w l.w

abbrev pub decreases-loop-step : goal.decreases-loop-step
decreases-loop-step l = length (to_come l.rooms.tree.now l.w)
