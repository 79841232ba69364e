-- The partitions met stand in the array, and with those not yet met they are all of them.
use lib.ListN.{length}
use Rattle.tree.specs.Steps.{to_come}
use Rattle.parse.proofs.Entering.{Filled}
use Rattle.parse.proofs.entry.each_partition.Given as goal

abbrev pub invariant-loop-step : goal.invariant-loop-step
invariant-loop-step l = Filled l.rooms.tree.now l.rooms.store.now l.rooms.made l.place l.end l.items l.i l.w

abbrev pub decreases-loop-step : goal.decreases-loop-step
decreases-loop-step l = length (to_come l.rooms.tree.now l.w)
