-- Of the items n are given, and those after the last one given are all that is left.
use Rattle.features.specs.Pieces.{pieces_from}
use Rattle.features.proofs.Tallying.{Tallied}
use Prim.Native.Nat.{◌-◌, ◌≤◌}
use Rattle.features.proofs.tally.Given as goal

abbrev pub invariant-loop-n : goal.invariant-loop-n
invariant-loop-n l = Tallied l.rooms.store.now (pieces_from l.rooms.tree.now l.rooms.store.now l.rooms.made l.f l.from) l.after l.n × (l.n ≤ l.end)

abbrev pub decreases-loop-n : goal.decreases-loop-n
decreases-loop-n l = l.end - l.n
