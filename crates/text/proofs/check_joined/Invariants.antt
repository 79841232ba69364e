-- The joined lines before a place are counted, and what the rest from there on says decides.
use Rattle.text.proofs.Checking.{Checking}
use lib.ListN.{length}
use Prim.Native.Nat.{◌-◌}
use Rattle.text.proofs.check_joined.Given as goal

abbrev pub invariant-loop-joined : goal.invariant-loop-joined
invariant-loop-joined l = Checking l.s l.at l.line l.place.at l.place.line l.found

abbrev pub decreases-loop-joined : goal.decreases-loop-joined
decreases-loop-joined l = length l.s - l.place.at
