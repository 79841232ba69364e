-- The keys met and those not yet met are all of them, as far as the limit and one more.
use Prim.Native.Nat.{◌+◌, ◌-◌}
use Rattle.parse.proofs.Entering.{Counted}
use Rattle.parse.proofs.entry.count_keys.Given as goal

abbrev pub invariant-loop-n : goal.invariant-loop-n
invariant-loop-n l = Counted l.tree l.store l.initial.w.place l.initial.w.end l.most l.w l.n

abbrev pub decreases-loop-n : goal.decreases-loop-n
decreases-loop-n l = l.most + 1 - l.n
