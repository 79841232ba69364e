-- Marks and packages of the components met stand in the arrays, and with those to come they are those of all.
use mathlib.Core.List.{map}
use lib.ListN.{length}
use Rattle.tree.specs.Steps.{to_come}
use Rattle.layout.specs.Parts.{part_name}
use Rattle.validate.proofs.Gathering.{Composed}
use Rattle.validate.proofs.gather.each_component.Given as goal

abbrev pub invariant-loop-step : goal.invariant-loop-step
invariant-loop-step l = Composed l.rooms.tree.now l.rooms.store.now l.rooms.made (map (part_name l.rooms.store.now) l.items) l.initial.w l.marks l.pairs l.fault l.first l.i l.w

abbrev pub decreases-loop-step : goal.decreases-loop-step
decreases-loop-step l = length (to_come l.rooms.tree.now l.w)
