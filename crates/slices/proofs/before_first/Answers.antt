use Prim.Native.Nat.{◌+◌, ◌*◌}
use mathlib.Core.Path.{◌≡◌}
use native.Mathlib.Omega.{arith}
use Rattle.slices.proofs.Bytes.{past_on}
use Rattle.slices.proofs.before_first.Goals as goal

pub loop-k-preserved : goal.loop-k-preserved
loop-k-preserved c =
    let e : 16 * c.loop-k.k + 16 ≡ 16 * (c.loop-k.k + 1) = omega arith in
    rw e at (past_on _ _ _ _ c.loop-k.invariant (omega arith) c.none_of_16.ensures c.if-not-none_of_16.false)
