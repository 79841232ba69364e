-- By cases of a test.
use Rattle.std.specs.Prelude.{ℕ, ◌≤◌, Bool, true, false, ◌≡◌, refl, leb}
use Rattle.std.proofs.Common.{arith}
use borrow.Author.Tests.{leb-true, le-leb}
use Rattle.meaning.specs.Base.{pick, between}

-- each side may use the test
pub on {κ} : {G : Type κ} (b : Bool) → (b ≡ true → G) → (b ≡ false → G) → G
on true f g = f refl
on false f g = g refl

-- what holds of both holds of the one picked
pub picked {ℓ κ} : {X : Type ℓ} (P : X → Type κ) (b : Bool) {x y : X} → (b ≡ true → P x) → (b ≡ false → P y) → P (pick b x y)
picked P true f g = f refl
picked P false f g = g refl

-- nothing is both
pub never {κ} : {G : Type κ} {b : Bool} → b ≡ true → b ≡ false → G
never p q = let z : ◌≡◌ {A = ℕ} 0 1 = cc in absurd (omega arith)

module _ (low high n : ℕ) where
  pub between_yes : low ≤ n → n ≤ high → between low high n ≡ true
  unfolding between
  between_yes h k = rw (le-leb low n h, le-leb n high k)

  pub between_no : (low ≤ n → n ≤ high → ⊥) → between low high n ≡ false
  unfolding between
  between_no h =
      on (leb low n)
      (λ p. on (leb n high) (λ q. absurd (h (leb-true low n p) (leb-true n high q))) (λ q. rw (p, q)))
      (λ p. rw p)

  pub between_low : between low high n ≡ true → low ≤ n
  unfolding between
  between_low e = on (leb low n) (λ p. leb-true low n p) (λ p. never {b = false} (rw p at e) refl)

  pub between_high : between low high n ≡ true → n ≤ high
  unfolding between
  between_high e = on (leb low n) (λ p. leb-true n high (rw p at e)) (λ p. never {b = false} (rw p at e) refl)

-- a call that said r stands for the test t: the side that is taken
module _ {ℓ} {X : Type ℓ} (r t : Bool) (x y z : X) where
  pub yes : r ≡ t → r ≡ true → z ≡ x → z ≡ pick t x y
  yes e p k = rw (← e, p) k

  pub no : r ≡ t → r ≡ false → z ≡ y → z ≡ pick t x y
  no e p k = rw (← e, p) k
