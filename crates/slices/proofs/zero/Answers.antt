use Prim.Native.Nat.{◌-◌, ◌*◌, ◌/◌}
use borrow.Author.Rules.{rules}
use mathlib.Core.Path.{◌≡◌, ◌∙◌, ap}
use native.Mathlib.Omega.{arith}
use lib.ListN.{length, take, drop}
use Rattle.meaning.specs.Base.{zeros}
use Rattle.slices.proofs.Zeroing.{empty_on, empty_end}
use Rattle.slices.proofs.zero.Goals as goal

pub loop-k-preserved : goal.loop-k-preserved
loop-k-preserved c = empty_on _ _ _ _ (omega arith) c.loop-k.invariant c.zero_block.ensures _ (omega arith)

pub returns : goal.returns
returns c =
    let a : 256 * c.loop-k.k ≡ length c.loop-k.s / 256 * 256 = omega arith in
    let w : _ = length c.loop-k.s / 256 * 256 in
    let f : c.fill.new.self ≡ zeros (length (take (length c.loop-k.s - w) (drop w c.loop-k.s))) = search rules in
    empty_end _ _ _ _ (omega arith) (rw a at c.loop-k.invariant) f (omega arith) ∙ ap zeros c.loop-k.auto.s
