-- A match that names some variants of an enum leaves the others to one arm: what holds of each of those holds there.
use Rattle.std.specs.Prelude.{ℕ, suc, Bool, true, false, List, [], ◌∷◌, ◌≡◌, refl}
use Rattle.std.proofs.Common.{inl, inr, subst}
use denote.Enum.Declared.{Record, Choice, rowss, intoss, declared, tag_of}
use denote.Enum.Enum.{tag}
use denote.Struct.Field.{Field}
use denote.Struct.Values.{Values}
use mir.Val.{has_key}
use types.Run.{OneOf, miss}
use Rattle.laws.specs.Cases.{on, never}

-- the number is among those of the arm
pub among : (kinds : List ℕ) (n : ℕ) → OneOf kinds n → has_key kinds n ≡ true
among kinds n o = on (has_key kinds n) (λ e. e) (λ e. absurd (miss kinds n (rw e tt) o))

-- R, by A where the test holds
abbrev pub Asked {ℓ} : Bool → Type ℓ → Type ℓ → Type ℓ
Asked true A R = A → R
Asked false A R = R

asked {ℓ} : (b : Bool) (A R : Type ℓ) → ((b ≡ true → A) → R) → Asked b A R
asked true A R k = λ a. k (λ _. a)
asked false A R k = k (λ h. never h refl)

-- R, by what is said of each variant that is left, for all values of its fields; `left` tells it by its number
abbrev pub Arms {ℓ} : (ℕ → Bool) → (variants : List (List Field)) → (Choice variants → Type ℓ) → Type ℓ → Type ℓ
Arms left [] P R = R
Arms left (fields ∷ variants) P R = Asked (left 0) ((v : Values fields) → P (inl v)) (Arms (λ n. left (suc n)) variants (λ c. P (inr c)) R)

abbrev All {ℓ} : (ℕ → Bool) → (variants : List (List Field)) → (Choice variants → Type ℓ) → Type ℓ
All left variants P = (c : Choice variants) → left (tag (rowss variants) (intoss variants c)) ≡ true → P c

module _ {ℓ} (left : ℕ → Bool) (fields : List Field) (variants : List (List Field)) (P : Choice (fields ∷ variants) → Type ℓ) where
  both : (left 0 ≡ true → (v : Values fields) → P (inl v)) → All (λ n. left (suc n)) variants (λ c. P (inr c)) → All left (fields ∷ variants) P
  both a rest (inl v) h = a h v
  both a rest (inr c) h = rest c h

arms {ℓ} : (left : ℕ → Bool) (variants : List (List Field)) (P : Choice variants → Type ℓ) (R : Type ℓ) → (All left variants P → R) → Arms left variants P R
arms left [] P R k = k (λ c. absurd c)
arms left (fields ∷ variants) P R k =
    asked (left 0) ((v : Values fields) → P (inl v)) (Arms (λ n. left (suc n)) variants (λ c. P (inr c)) R)
    (λ a. arms (λ n. left (suc n)) variants (λ c. P (inr c)) R (λ rest. k (both left fields variants P a rest)))

-- the law, of any declared enum, whose module gives it as `enum`: an argument for each of the kinds, in their order
module _ (N : Record) where
  abbrev pub Left : List ℕ → N.D → Type 0
  Left kinds v = OneOf kinds (tag_of (declared N) v)

  pub others {ℓ} : (P : N.D → Type ℓ) (kinds : List ℕ) → Arms (has_key kinds) N.parts (λ c. P (N.make c)) ((v : N.D) → Left kinds v → P v)
  others P kinds =
      arms (has_key kinds) N.parts (λ c. P (N.make c)) ((v : N.D) → Left kinds v → P v)
      (λ all v o. subst P (N.eta v) (all (N.as_values v) (among kinds (tag_of (declared N) v) o)))
