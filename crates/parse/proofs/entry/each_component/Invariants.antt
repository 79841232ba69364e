-- The components not yet met give the refusal that all of them give.
use lib.ListN.{length}
use Rattle.tree.specs.Steps.{to_come}
use Rattle.parse.proofs.Entering.{Composed}
use Rattle.parse.proofs.entry.each_component.Given as goal

abbrev pub invariant-loop-step : goal.invariant-loop-step
invariant-loop-step l = Composed l.rooms.tree.now l.rooms.store.now l.rooms.made l.place l.end l.limit l.i l.w

abbrev pub decreases-loop-step : goal.decreases-loop-step
decreases-loop-step l = length (to_come l.rooms.tree.now l.w)
