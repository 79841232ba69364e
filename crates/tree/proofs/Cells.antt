-- Cells written field by field, and read.
use Prim.Native.Nat.{ℕ, ◌+◌, ◌*◌, ◌≤◌, ◌<◌}
use mathlib.Core.List.{List, [], ◌∷◌, ◌++◌, append_assoc}
use mathlib.Core.Path.{◌≡◌, refl, sym, ap, ◌∙◌}
use native.Mathlib.Omega.{arith}
use lib.ListN.{length, get_or, set, length-set}
use Rattle.laws.specs.Stored.{stored, stored_nil, stored_cons, stored_then}
use Rattle.slices.specs.Numbers.{little, number}
use Rattle.tree.specs.declared.Slot.{Slot}
use Rattle.tree.specs.Room.{Holds, place, body, cell, slot_at, hung}

-- the second byte is in the room too
pub mark_second : (tree : List ℕ) (at a : ℕ) → at + 2 ≤ length tree → at + 1 < length (set tree at a)
mark_second tree at a h = omega (arith, length-set tree at a)

pub marked : (tree : List ℕ) (at a b : ℕ) → at + 2 ≤ length tree → set (set tree at a) (at + 1) b ≡ stored tree at (a ∷ b ∷ [])
marked tree at a b h =
    sym (stored_nil (set (set tree at a) (at + 1) b) (at + 1 + 1))
    ∙ stored_cons (set tree at a) [] (at + 1) b (mark_second tree at a h)
    ∙ stored_cons tree (b ∷ []) at a (omega arith)

-- three stores one after the other
three : (tree t₀ t₁ t₂ xs ys zs : List ℕ) (at p q : ℕ) → at ≤ length tree → p ≡ at + length xs → q ≡ at + length (xs ++ ys)
    → t₀ ≡ stored tree at xs → t₁ ≡ stored t₀ p ys → t₂ ≡ stored t₁ q zs → t₂ ≡ stored tree at (xs ++ (ys ++ zs))
three tree t₀ t₁ t₂ xs ys zs at p q h e f g₀ g₁ g₂ =
    let k : t₁ ≡ stored tree at (xs ++ ys) = g₁ ∙ ap (λ (t : List ℕ). stored t p ys) g₀ ∙ stored_then tree at xs ys p h e in
    g₂ ∙ ap (λ (t : List ℕ). stored t q zs) k ∙ stored_then tree at (xs ++ ys) zs q h f ∙ ap (stored tree at) (append_assoc xs ys zs)

module _ (tree t₀ t₁ t₂ : List ℕ) (v : Slot) where
  pub linked : (at : ℕ) → at + 6 ≤ length tree → t₀ ≡ stored tree at (little 2 v.parent) → t₁ ≡ stored t₀ (at + 2) (little 2 v.key)
      → t₂ ≡ stored t₁ (at + 4) (little 2 v.len) → t₂ ≡ stored tree at (place v)
  unfolding place
  linked at h = three tree t₀ t₁ t₂ (little 2 v.parent) (little 2 v.key) (little 2 v.len) at (at + 2) (at + 4) (omega arith) refl refl

  pub filled : (at : ℕ) → at + 24 ≤ length tree → t₀ ≡ stored tree at (little 8 v.«data») → t₁ ≡ stored t₀ (at + 8) (little 8 0)
      → t₂ ≡ stored t₁ (at + 16) (little 8 0) → t₂ ≡ stored tree at (body v)
  unfolding body
  filled at h = three tree t₀ t₁ t₂ (little 8 v.«data») (little 8 0) (little 8 0) at (at + 8) (at + 16) (omega arith) refl refl

  pub put_whole : (n : ℕ) → Holds tree (n + 1) → t₀ ≡ stored tree (32 * n) (v.kind ∷ 0 ∷ []) → t₁ ≡ stored t₀ (32 * n + 2) (place v)
      → t₂ ≡ stored t₁ (32 * n + 8) (body v) → t₂ ≡ stored tree (32 * n) (cell v)
  unfolding cell place
  put_whole n h = three tree t₀ t₁ t₂ (v.kind ∷ 0 ∷ []) (place v) (body v) (32 * n) (32 * n + 2) (32 * n + 8) (omega (arith, h.fits)) refl refl

pub got : (tree : List ℕ) (n p k l d : ℕ)
    → p ≡ number 2 tree (32 * n + 2)
    → k ≡ number 2 tree (32 * n + 4)
    → l ≡ number 2 tree (32 * n + 6)
    → d ≡ number 8 tree (32 * n + 8)
    → ◌≡◌ {A = Slot} (record { kind = get_or tree (32 * n) 0; parent = p; key = k; len = l; «data» = d }) (slot_at tree n)
unfolding slot_at
got tree n p k l d e f g h = rw (e, f, g, h)

pub hung_up : (tree t : List ℕ) (n parent key len : ℕ) (v : Slot) → v ≡ slot_at tree n
    → t ≡ stored tree (32 * n) (cell (record { kind = v.kind; parent = parent; key = key; len = len; «data» = v.«data» }))
    → t ≡ stored tree (32 * n) (cell (hung parent key len (slot_at tree n)))
hung_up tree t n parent key len v e f = f ∙ ap (λ (w : Slot). stored tree (32 * n) (cell (hung parent key len w))) e
