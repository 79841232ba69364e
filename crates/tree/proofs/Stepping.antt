-- The walks' steps: one law for each way out.
use Prim.Native.Nat.{ℕ, ◌+◌, ◌^◌, ◌<◌}
use mathlib.Core.List.{List}
use mathlib.Core.Path.{◌≡◌, refl}
use native.Mathlib.Omega.{arith}
use mir.Syntax.{w64}
use mir.Val.{Fits}
use lib.ListN.{length}
use Rattle.tree.specs.declared.Slot.{Slot}
use Rattle.std.specs.Prelude.{Option, Some}
use Rattle.tree.specs.declared.Items.{Items}
use Rattle.tree.specs.Room.{Holds, Finds, slot_at, child}
use Rattle.tree.specs.Laws.{found_below, found_from}
use Rattle.tree.specs.Spans.{items_step}
use Rattle.tree.specs.Steps.{items_from, KeyIs, Given}

-- ---- what a value says of itself
module _ (room : List ℕ) (n : ℕ) (v : Slot) (e : v ≡ slot_at room n) where
  pub kind_is : v.kind ≡ (slot_at room n).kind
  kind_is = rw e

  pub key_is_lem : v.key < 65536 → v.len < 65536 → KeyIs room n (record { from = v.key; len = v.len })
  key_is_lem a b = record { is = rw e; near = a; short = b }

-- ---- in the order of the text
module _ (room : List ℕ) (w : Items) (found : Option ℕ) (h : Finds w.at w.end (child room w.end w.place w.at) found) (n : ℕ) (e : found ≡ Some n) where
  below : n < w.end
  below = found_below found w.end n h.below e

  pub item_step : (rest : Items) → rest ≡ items_from w.place (n + 1) w.end → Given room w (record { value = n; rest = rest })
  item_step rest d =
      rw d (
      record {
        come = items_step room w.end w.place w.at n found h e;
        below = below;
        place = refl;
        end = refl;
        on = omega (arith, found_from found w.at n h.from e);
        within = omega (arith, below);
      }
      )
