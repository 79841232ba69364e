-- The first refusal among the applications met, and else among those not yet met, is the first of all.
use Prim.Native.Nat.{◌+◌, ◌-◌}
use Rattle.parse.proofs.Entering.{Walking}
use Rattle.parse.proofs.entry.check_applications.Given as goal

abbrev pub invariant-loop-i : goal.invariant-loop-i
invariant-loop-i l = Walking l.rooms.tree.now l.rooms.store.now l.rooms.made l.most l.limit l.initial.w.place l.initial.w.end l.w l.fault l.i

abbrev pub decreases-loop-i : goal.decreases-loop-i
decreases-loop-i l = l.most + 1 - l.i
