-- What stands where in a list.
use Rattle.std.specs.Prelude.{ℕ, zero, suc, ◌<◌, List, [], ◌∷◌, ◌++◌, map, ◌⊎◌, ◌≡◌, refl, length, get_or}
use Rattle.std.proofs.Common.{inl, inr, sym, ap, ◌∙◌, subst, arith}
use Rattle.std.proofs.Math.Option.{Option, none, some}
use Rattle.meaning.specs.Base.{or_default}
use Rattle.laws.specs.Accepted.{All}

-- x stands at place i
abbrev pub At : {X : Type 0} → List X → ℕ → X → Type 0
At [] i x = ⊥
At (y ∷ ys) zero x = y ≡ x
At (y ∷ ys) (suc i) x = At ys i x

-- x stands somewhere
abbrev pub In : {X : Type 0} → X → List X → Type 0
In x xs = (i : ℕ) × At xs i x

module _ {X : Type 0} where
  pub at_one : (xs : List X) (i : ℕ) (x y : X) → At xs i x → At xs i y → x ≡ y
  at_one [] i x y h g = absurd h
  at_one (z ∷ xs) zero x y h g = sym h ∙ g
  at_one (z ∷ xs) (suc i) x y h g = at_one xs i x y h g

  pub at_inside : (xs : List X) (i : ℕ) (x : X) → At xs i x → i < length xs
  at_inside [] i x h = absurd h
  at_inside (z ∷ xs) zero x h = omega arith
  at_inside (z ∷ xs) (suc i) x h = omega (arith, at_inside xs i x h)

  pub at_get_or : (xs : List X) (i : ℕ) (x d : X) → At xs i x → get_or xs i d ≡ x
  at_get_or [] i x d h = absurd h
  at_get_or (z ∷ xs) zero x d h = h
  at_get_or (z ∷ xs) (suc i) x d h = at_get_or xs i x d h

  pub get_d_at : (xs : List X) (i : ℕ) (d : X) → i < length xs → At xs i (get_or xs i d)
  get_d_at [] i d l = absurd (omega arith)
  get_d_at (z ∷ xs) zero d l = refl
  get_d_at (z ∷ xs) (suc i) d l = get_d_at xs i d (omega arith)

  pub all_of : (P : X → Type 0) (xs : List X) (i : ℕ) (x : X) → All P xs → At xs i x → P x
  all_of P [] i x h g = absurd g
  all_of P (z ∷ xs) zero x h g = subst P g h.0
  all_of P (z ∷ xs) (suc i) x h g = all_of P xs i x h.1 g

  pub in_more : (x y : X) (xs : List X) → In x xs → In x (y ∷ xs)
  in_more x y xs h = (suc h.0, h.1)

  pub in_left : (x : X) (xs ys : List X) → In x xs → In x (xs ++ ys)
  in_left x xs ys h = (h.0, go xs h.0 h.1)
    where
      go : (zs : List X) (i : ℕ) → At zs i x → At (zs ++ ys) i x
      go [] i g = absurd g
      go (z ∷ zs) zero g = g
      go (z ∷ zs) (suc i) g = go zs i g

  pub in_right : (x : X) (xs ys : List X) → In x ys → In x (xs ++ ys)
  in_right x [] ys h = h
  in_right x (z ∷ xs) ys h = in_more x z (xs ++ ys) (in_right x xs ys h)

  pub in_split : (x : X) (xs ys : List X) → In x (xs ++ ys) → In x xs ⊎ In x ys
  in_split x xs ys h = go xs h.0 h.1
    where
      more : (z : X) (zs : List X) → In x zs ⊎ In x ys → In x (z ∷ zs) ⊎ In x ys
      more z zs (inl g) = inl (in_more x z zs g)
      more z zs (inr g) = inr g

      go : (zs : List X) (i : ℕ) → At (zs ++ ys) i x → In x zs ⊎ In x ys
      go [] i g = inr (i, g)
      go (z ∷ zs) zero g = inl (0, g)
      go (z ∷ zs) (suc i) g = more z zs (go zs i g)

-- ---- something and nothing

pub none_some {κ} : {X : Type 0} {G : Type κ} (x : X) → ◌≡◌ {A = Option X} none (some x) → G
none_some x e = let z : ◌≡◌ {A = ℕ} 0 1 = cc in absurd (omega arith)

pub some_one : {X : Type 0} (x y : X) → ◌≡◌ {A = Option X} (some x) (some y) → x ≡ y
some_one {X} x y e = ap (λ (o : Option X). or_default o x) e

-- ---- images

module _ {X Y : Type 0} (f : X → Y) where
  pub map_at : (xs : List X) (i : ℕ) (x : X) → At xs i x → At (map f xs) i (f x)
  map_at [] i x h = h
  map_at (z ∷ xs) zero x h = ap f h
  map_at (z ∷ xs) (suc i) x h = map_at xs i x h

  -- what stands in a list of images is one
  pub at_map : (xs : List X) (i : ℕ) (y : Y) → At (map f xs) i y → (x : X) × At xs i x × (y ≡ f x)
  at_map [] i y h = absurd h
  at_map (z ∷ xs) zero y h = (z, refl, sym h)
  at_map (z ∷ xs) (suc i) y h = at_map xs i y h
