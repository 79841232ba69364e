-- No application met so far has the key, so the first of those to come that has it is the first of all.
use Prim.Native.Nat.{◌-◌}
use Rattle.plan.proofs.Choosing.{Seeking}
use Rattle.plan.proofs.choice.declared.Given as goal

abbrev pub invariant-loop-i : goal.invariant-loop-i
invariant-loop-i l = Seeking l.rooms.tree.now l.rooms.store.now l.key l.initial.w l.w l.i

abbrev pub decreases-loop-i : goal.decreases-loop-i
decreases-loop-i l = 65 - l.i
