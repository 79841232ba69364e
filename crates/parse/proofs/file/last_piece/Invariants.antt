-- The last piece of what is passed, and then of what is to come, is the last of all.
use Prim.Native.Nat.{◌-◌}
use lib.ListN.{length}
use Rattle.parse.proofs.Filing.{Seeking}
use Rattle.parse.proofs.file.last_piece.Given as goal

abbrev pub invariant-loop-at : goal.invariant-loop-at
invariant-loop-at l = Seeking l.s l.best l.at

abbrev pub decreases-loop-at : goal.decreases-loop-at
decreases-loop-at l = length l.s - l.at
