-- Paths, innermost key first.
use Rattle.std.specs.Prelude.{◌≤◌, ◌<◌, List, [], ◌∷◌, ◌++◌, Bool, true, false, ◌≡◌, refl, length}
use Rattle.std.proofs.Common.{ap, arith}
use Rattle.meaning.specs.Base.{pick}
use Rattle.laws.specs.Cases.{on, never}
use Rattle.agree.specs.Key.{Key, eqk, eqk_true, eq_eqk}

abbrev pub same_path : List Key → List Key → Bool
same_path [] [] = true
same_path [] (b ∷ q) = false
same_path (a ∷ p) [] = false
same_path (a ∷ p) (b ∷ q) = pick (eqk a b) (same_path p q) false

-- q is h or lies under it
abbrev pub below : List Key → List Key → Bool
below h [] = same_path [] h
below h (j ∷ q) = pick (same_path (j ∷ q) h) true (below h q)

pub paths_refl : (p : List Key) → same_path p p ≡ true
paths_refl [] = refl
paths_refl (a ∷ p) = rw (eq_eqk a a refl) (paths_refl p)

pub eq_paths : (p q : List Key) → p ≡ q → same_path p q ≡ true
eq_paths p q e = rw e (paths_refl q)

pub paths_eq : (p q : List Key) → same_path p q ≡ true → p ≡ q
paths_eq [] [] e = refl
paths_eq [] (b ∷ q) e = never e refl
paths_eq (a ∷ p) [] e = never e refl
paths_eq (a ∷ p) (b ∷ q) e =
    on (eqk a b) (λ f. let g : a ≡ b = eqk_true a b f in let h : p ≡ q = paths_eq p q (rw f at e) in cc) (λ f. never {b = false} (rw f at e) refl)

pub below_long : (h q : List Key) → below h q ≡ true → length h ≤ length q
below_long h [] e = let f : [] ≡ h = paths_eq [] h e in rw (← f) (omega arith)
below_long h (j ∷ q) e =
    on (same_path (j ∷ q) h) (λ f. let g : j ∷ q ≡ h = paths_eq (j ∷ q) h f in rw (← g) (omega arith))
    (λ f. omega (arith, below_long h q (rw f at e)))

-- what lies under h is not h
pub under_not : (h q : List Key) (j : Key) → below h q ≡ true → same_path (j ∷ q) h ≡ false
under_not h q j e =
    on (same_path (j ∷ q) h) (λ f. let x : ⊥ = omega (arith, below_long h q e, ap length (paths_eq (j ∷ q) h f)) in absurd x) (λ f. f)

-- what lies under h goes on from it
pub record Beyond (h q : List Key) : Type 0 where
  pub rest : List Key
  pub is : q ≡ rest ++ h

pub beyond : (h q : List Key) → below h q ≡ true → Beyond h q
beyond h [] e = record { rest = []; is = paths_eq [] h e }
beyond h (j ∷ q) e =
    on (same_path (j ∷ q) h) (λ f. record { rest = []; is = paths_eq (j ∷ q) h f })
    (λ f. let b : Beyond h q = beyond h q (rw f at e) in
    record { rest = j ∷ b.rest; is = ap (λ (r : List Key). j ∷ r) b.is })

-- what does not lie under h is not h, and what it goes on from does not lie under h
pub apart : (h q : List Key) (j : Key) → below h (j ∷ q) ≡ false → below h q ≡ false
apart h q j e = on (same_path (j ∷ q) h) (λ f. never {b = true} refl (rw f at e)) (λ f. rw f at e)

pub not_it : (h q : List Key) → below h q ≡ false → q ≡ h → ⊥
not_it h q e f = never (below_self h) (rw f at e)
  where
    below_self : (p : List Key) → below p p ≡ true
    below_self [] = refl
    below_self (j ∷ p) = rw (paths_refl (j ∷ p))

-- a shorter path does not lie under a longer one
pub shorter : (h q : List Key) → length q < length h → below h q ≡ false
shorter h q l = on (below h q) (λ e. absurd (omega (arith, below_long h q e))) (λ e. e)
