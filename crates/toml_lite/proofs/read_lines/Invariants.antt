-- The lines that are left, read from what the rooms hold now, mean what the whole text means.
use lib.ListN.{length}
use Prim.Native.Nat.{◌-◌}
use Rattle.toml_lite.proofs.Looping.{Ahead}
use Rattle.toml_lite.proofs.read_lines.Given as goal

abbrev pub invariant-loop-l : goal.invariant-loop-l
invariant-loop-l l = Ahead l.limits l.s l.initial.store l.initial.tree l.store l.tree l.progress.st l.progress.here l.place.at l.place.line

abbrev pub decreases-loop-l : goal.decreases-loop-l
decreases-loop-l l = length l.s - l.place.at
