-- What stands where: the word of the statements and that of the lemmas say the same.
use Prim.Native.Nat.{ℕ, zero, suc}
use mathlib.Core.List.{List, [], ◌∷◌}
use Rattle.laws.specs.Places as laws
use Rattle.theorems.specs.Words.{At}

module _ {X : Type 0} where
  pub lemma_at : (xs : List X) (i : ℕ) (x : X) → At xs i x → laws.At xs i x
  lemma_at [] i x h = h
  lemma_at (y ∷ ys) zero x h = h
  lemma_at (y ∷ ys) (suc i) x h = lemma_at ys i x h

  pub at_lemma : (xs : List X) (i : ℕ) (x : X) → laws.At xs i x → At xs i x
  at_lemma [] i x h = h
  at_lemma (y ∷ ys) zero x h = h
  at_lemma (y ∷ ys) (suc i) x h = at_lemma ys i x h
