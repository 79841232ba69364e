-- The searches in the tree room are those in its list of values, and a string's data tells where its bytes lie.
use Rattle.std.specs.Prelude.{ℕ, ◌<◌, ◌≡◌}
use mathlib.Core.List.{List, ◌++◌}
use Rattle.std.proofs.Math.ListN.{length, get_or}
use Rattle.tree.specs.declared.Slot.{Slot}
use Rattle.tree.specs.Room.{slot_at}
use Rattle.values.specs.Grow.{void}

-- the rooms begin with these values and these bytes
pub record Carried (room store bytes : List ℕ) (vs : List Slot) : Type 0 where
  pub each : (i : ℕ) → i < length vs → slot_at room i ≡ get_or vs i void
  pub rest : List ℕ
  pub is : store ≡ bytes ++ rest
