-- The items met and those to come are all of them, and the fault so far is that of those met.
use lib.ListN.{length}
use Rattle.tree.specs.Steps.{to_come}
use Rattle.features.proofs.Stepping.{Sifting}
use Rattle.features.proofs.items_fault.Given as goal

abbrev pub invariant-loop-step : goal.invariant-loop-step
invariant-loop-step l = Sifting l.rooms.tree.now l.rooms.store.now l.rooms.made l.place l.limit l.fault l.n l.w

abbrev pub decreases-loop-step : goal.decreases-loop-step
decreases-loop-step l = length (to_come l.rooms.tree.now l.w)
