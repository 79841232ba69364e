-- A walk over the components of a preset, whatever it asks of them.
use Prim.Native.Nat.{ℕ}
use mathlib.Core.List.{List as Seq}
use mathlib.Core.Path.{◌≡◌}
use Rattle.tree.specs.declared.Items.{Items}
use Rattle.tree.specs.Steps.{to_come}

-- of a walk that began as v, what is to come gives what all of it gives
pub record Left {X : Type 0} (f : Seq ℕ → X) (room : Seq ℕ) (v w : Items) : Type 0 where
  pub is : f (to_come room v) ≡ f (to_come room w)
  pub among : w.end ≡ v.end
