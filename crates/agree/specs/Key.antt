-- A step of a path: a table's key, or a place in an array.
use Rattle.std.specs.Prelude.{ℕ, List, Bool, true, false, ◌≡◌, refl, eqb}
use Rattle.std.proofs.Common.{ap, eqb-true, eq-eqb}
use Rattle.meaning.specs.Base.{same}
use Rattle.laws.specs.Cases.{on, never}
use Rattle.laws.specs.Never.{same_refl}
use Rattle.laws.specs.Order.{same_eq}

pub data Key : Type 0 where
  name : List ℕ → Key
  index : ℕ → Key

abbrev pub eqk : Key → Key → Bool
eqk (name a) (name b) = same a b
eqk (name a) (index j) = false
eqk (index i) (name b) = false
eqk (index i) (index j) = eqb i j

eqk_refl : (k : Key) → eqk k k ≡ true
eqk_refl (name a) = same_refl a
eqk_refl (index i) = eq-eqb i i refl

pub eqk_true : (a b : Key) → eqk a b ≡ true → a ≡ b
eqk_true (name a) (name b) e = ap name (same_eq a b e)
eqk_true (name a) (index j) e = never e refl
eqk_true (index i) (name b) e = never e refl
eqk_true (index i) (index j) e = ap index (eqb-true i j e)

pub eq_eqk : (a b : Key) → a ≡ b → eqk a b ≡ true
eq_eqk a b e = rw e (eqk_refl b)

pub ne_eqk : (a b : Key) → (a ≡ b → ⊥) → eqk a b ≡ false
ne_eqk a b h = on (eqk a b) (λ e. absurd (h (eqk_true a b e))) (λ e. e)
