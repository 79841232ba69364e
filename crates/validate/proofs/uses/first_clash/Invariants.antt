-- The entries before number i agree with each other, so what is left of an entry after one of them clashes with another where the entry itself does.
use Prim.Native.Nat.{◌-◌}
use lib.ListN.{length, get_or}
use Rattle.validate.specs.Gathered.{blank}
use Rattle.validate.proofs.Settling.{Agreed, Rest}
use Rattle.validate.proofs.uses.first_clash.Given as goal

abbrev pub invariant-loop-j : goal.invariant-loop-j
invariant-loop-j l = Rest l.rooms.tree.now l.rooms.store.now l.rooms.made l.pairs (get_or l.pairs l.i blank) l.rest l.i l.j

abbrev pub decreases-loop-j : goal.decreases-loop-j
decreases-loop-j l = l.i - l.j

abbrev pub invariant-loop-i : goal.invariant-loop-i
invariant-loop-i l = Agreed l.rooms.tree.now l.rooms.store.now l.rooms.made l.pairs l.i

abbrev pub decreases-loop-i : goal.decreases-loop-i
decreases-loop-i l = length l.pairs - l.i
