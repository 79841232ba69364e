-- The items given so far are the same, and those to come decide.
use Rattle.features.specs.Pieces.{pieces}
use Rattle.features.proofs.Comparing.{Comparing, steps}
use Rattle.features.proofs.equal_slow.Given as goal

abbrev pub invariant-loop-f : goal.invariant-loop-f
invariant-loop-f l = Comparing l.rooms.store.now (pieces l.rooms.tree.now l.rooms.store.now l.rooms.made l.f) (pieces l.rooms.tree.now l.rooms.store.now l.rooms.made l.g) l.a l.b

abbrev pub decreases-loop-f : goal.decreases-loop-f
decreases-loop-f l = steps l.rooms.store.now (pieces l.rooms.tree.now l.rooms.store.now l.rooms.made l.f) l.a
