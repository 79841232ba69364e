-- The best of the pieces met, and then of those to come, is the best of all.
use Prim.Native.Nat.{◌-◌}
use Rattle.features.specs.Pieces.{bound}
use Rattle.features.proofs.Stepping.{Nearing}
use Rattle.features.proofs.nearest.Given as goal

abbrev pub invariant-loop-raw : goal.invariant-loop-raw
invariant-loop-raw l = Nearing l.rooms.tree.now l.rooms.store.now l.rooms.made l.f l.from l.after l.best l.at

abbrev pub decreases-loop-raw : goal.decreases-loop-raw
decreases-loop-raw l = bound l.rooms.tree.now l.rooms.store.now l.rooms.made l.f - l.at
