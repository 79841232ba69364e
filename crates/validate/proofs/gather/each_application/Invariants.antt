-- Marks and packages of the applications met stand in the arrays, and with those to come they are those of all.
use Prim.Native.Nat.{◌-◌}
use lib.ListN.{take}
use Rattle.validate.proofs.Gathering.{Applying}
use Rattle.validate.proofs.gather.each_application.Given as goal

abbrev pub invariant-loop-step : goal.invariant-loop-step
invariant-loop-step l = Applying l.rooms.tree.now l.rooms.store.now l.rooms.made l.items (take l.c.count l.initial.pairs) l.c.count l.initial.w l.marks l.pairs l.fault l.w l.i

abbrev pub decreases-loop-step : goal.decreases-loop-step
decreases-loop-step l = 65 - l.i
