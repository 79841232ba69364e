-- From i on no value is the field, so the newest below i is the newest of all.
use Rattle.tree.proofs.Opening.{Seeking}
use Prim.Native.Nat.{◌-◌}
use Rattle.tree.proofs.newest_field.Given as goal

abbrev pub invariant-loop-i : goal.invariant-loop-i
invariant-loop-i l = Seeking l.tree l.store l.key l.f.from l.f.to l.f.place l.i

abbrev pub decreases-loop-i : goal.decreases-loop-i
decreases-loop-i l = l.i - l.f.from
