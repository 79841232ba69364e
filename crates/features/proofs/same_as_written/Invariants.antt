-- The pieces met are the same in both lists, so the lists are the same where the rest is.
use Prim.Native.Nat.{◌-◌}
use Rattle.features.specs.Pieces.{bound}
use Rattle.features.proofs.Comparing.{Pairing}
use Rattle.features.proofs.same_as_written.Given as goal

abbrev pub invariant-loop-r : goal.invariant-loop-r
invariant-loop-r l = Pairing l.rooms.tree.now l.rooms.store.now l.rooms.made l.f l.g l.at l.bt

abbrev pub decreases-loop-r : goal.decreases-loop-r
decreases-loop-r l = bound l.rooms.tree.now l.rooms.store.now l.rooms.made l.f - l.at
