use native.Mathlib.Omega.{arith}
use Prim.Native.Nat.{◌+◌, ◌-◌}
use mathlib.Core.Path.{◌≡◌}
use Rattle.chars.proofs.Ends.{tail_on}
use Rattle.chars.proofs.before_spaces.Goals as goal

pub returns-then-s-e-ne32 : goal.returns-then-s-e-ne32
returns-then-s-e-ne32 c = let e : c.loop-e.e - 1 + 1 ≡ c.loop-e.e = omega arith in rw e c.loop-e.invariant

pub loop-e-preserved : goal.loop-e-preserved
loop-e-preserved c = tail_on _ _ c.loop-e.invariant c.loop-e-test.true c.if-s-e-ne32.false
