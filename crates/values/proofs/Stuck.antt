-- A walk of the tree, and what it does at its end, is refused by 16 or 13 alone.
use Prim.Native.Nat.{ℕ, suc, ◌+◌, ◌<◌}
use mathlib.Core.List.{List, [], ◌∷◌}
use mathlib.Core.Path.{◌≡◌, refl}
use native.Mathlib.Omega.{arith}
use lib.Dec.{eqb, leb}
use lib.ListN.{length, get_or}
use Rattle.std.proofs.Common.{Option, None, Some}
use Rattle.meaning.specs.Base.{pick}
use Rattle.laws.specs.Cases.{on}
use Rattle.tree.specs.declared.Slot.{Slot}
use Rattle.values.specs.Grow.{Seg, Grown, grown, stuck, spelt, void, keyed_slot, look_s, onward, make_s, enter_by, enter_s, down_s, item_s, push_by, push_s, to_last_s}

abbrev pub Told : Grown → Type 0
Told (grown vs p) = Unit {0}
Told (stuck n) = n ≡ pick (eqb n 16) 16 13

module _ (limit : ℕ) (bytes : List ℕ) where
  pub make_told : (vs : List Slot) (v : Slot) → Told (make_s limit vs v)
  unfolding make_s
  make_told vs v = on (leb limit (length vs)) (λ t. rw t refl) (λ t. rw t tt)

  onward_told : (g : Grown) (f : List Slot → ℕ → Grown) → Told g → ((vs : List Slot) (p : ℕ) → Told (f vs p)) → Told (onward g f)
  onward_told (grown vs p) f h k = k vs p
  onward_told (stuck n) f h k = h

  enter_by_lem : (vs : List Slot) (p : ℕ) (k : Seg) (f : Option ℕ) → Told (enter_by limit vs p k f)
  enter_by_lem vs p k (Some n) = on (eqb (get_or vs n void).kind 5) (λ t. rw t tt) (λ t. rw t (make_told vs (keyed_slot 5 p k)))
  enter_by_lem vs p k None = make_told vs (keyed_slot 5 p k)

  pub enter_told : (vs : List Slot) (p : ℕ) (k : Seg) → Told (enter_s limit bytes vs p k)
  unfolding enter_s
  enter_told vs p k = enter_by_lem vs p k (look_s bytes 0 vs p (spelt bytes k) None)

  pub down_told : (ks : List Seg) (vs : List Slot) (p : ℕ) → Told (down_s limit bytes ks vs p)
  down_told [] vs p = tt
  down_told (k ∷ ks) vs p = onward_told (enter_s limit bytes vs p k) (down_s limit bytes ks) (enter_told vs p k) (λ ws q. down_told ks ws q)

  item_told : (vs : List Slot) (p : ℕ) → Told (item_s limit vs p)
  item_told vs p = make_told vs (record { kind = 5; parent = p; key = 0; len = 0; «data» = 0 })

  push_by_lem : (vs : List Slot) (p : ℕ) (k : Seg) (f : Option ℕ) → Told (push_by limit vs p k f)
  push_by_lem vs p k (Some n) = on (eqb (get_or vs n void).kind 4) (λ t. rw t (item_told vs (n + 2))) (λ t. rw t refl)
  push_by_lem vs p k None = onward_told (make_s limit vs (keyed_slot 4 p k)) (item_s limit) (make_told vs (keyed_slot 4 p k)) item_told

  pub push_told : (vs : List Slot) (p : ℕ) (k : Seg) → Told (push_s limit bytes vs p k)
  unfolding push_s
  push_told vs p k = push_by_lem vs p k (look_s bytes 0 vs p (spelt bytes k) None)

  pub last_told : (f : List Slot → ℕ → Seg → Grown) → ((vs : List Slot) (p : ℕ) (k : Seg) → Told (f vs p k))
      → (ks : List Seg) (vs : List Slot) (p : ℕ) → 0 < length ks → Told (to_last_s limit bytes f ks vs p)
  last_told f w [] vs p l = absurd (omega arith)
  last_told f w (k ∷ []) vs p l = w vs p k
  last_told f w (k ∷ j ∷ ks) vs p l =
      onward_told (enter_s limit bytes vs p k) (to_last_s limit bytes f (j ∷ ks)) (enter_told vs p k) (λ ws q. last_told f w (j ∷ ks) ws q (omega arith))
