-- The blocks passed are zero.
use Prim.Native.Nat.{◌*◌}
use mathlib.Core.Path.{◌≡◌}
use lib.ListN.{take}
use Rattle.meaning.specs.Base.{zeros}
use Rattle.slices.proofs.zero.Given as goal

abbrev pub invariant-loop-k : goal.invariant-loop-k
invariant-loop-k l = take (256 * l.k) l.s ≡ zeros (256 * l.k)
