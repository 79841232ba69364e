-- A loop over entries, each against those before it, and two nested ones: one law for each way on and out, whatever a hit is.
use Rattle.std.specs.Prelude.{ℕ, suc, ◌+◌, ◌≤◌, ◌<◌, Bool, true, false, List, [], ◌∷◌, ◌≡◌, refl, length, get_or, take, drop}
use Rattle.std.proofs.Common.{arith, add-one, take-suc, drop-cons}
use Rattle.std.proofs.Math.ListN.{drop_of_length-le}
use Rattle.std.proofs.Math.Seq.{slice, slice-cons, slice_empty}
use Rattle.meaning.specs.Base.{pick}
use Rattle.meaning.specs.Verdict.{with_last}
use Rattle.turns.specs.Marks.{any_of, first_hit}

-- no entry before number i hits an earlier one
pub record Later {X : Type 0} (hit : X → X → Bool) (xs : List X) (i : ℕ) : Type 0 where
  pub high : i ≤ length xs
  pub left : first_hit hit [] xs ≡ i + first_hit hit (take i xs) (drop i xs)

-- entry number i hits none before number j
pub record Earlier {X : Type 0} (hit : X → X → Bool) (xs : List X) (x : X) (i j : ℕ) : Type 0 where
  pub high : j ≤ i
  pub left : any_of (hit x) (take i xs) ≡ any_of (hit x) (slice j i xs)

module _ {X : Type 0} (hit : X → X → Bool) (xs : List X) where
  pub later_start : Later hit xs 0
  later_start = record { high = omega arith; left = omega arith }

  module _ (i : ℕ) (k : Later hit xs i) where
    -- entry number i is the first of those that are left
    pub later_head : (d : X) → i < length xs
        → first_hit hit [] xs ≡ i + pick (any_of (hit (get_or xs i d)) (take i xs)) 0 (suc (first_hit hit (take (i + 1) xs) (drop (i + 1) xs)))
    later_head d l =
        let a : drop i xs ≡ get_or xs i d ∷ drop (suc i) xs = drop-cons xs i d l in
        let b : take (suc i) xs ≡ with_last (take i xs) (get_or xs i d) = take-suc xs i d l in
        rw (add-one, b) (rw a at k.left)

    pub later_end : length xs ≤ i → first_hit hit [] xs ≡ length xs
    later_end l =
        let a : first_hit hit (take i xs) (drop i xs) ≡ 0 = rw (drop_of_length-le xs l) in
        omega (arith, k.left, k.high, a)

    pub later_on : (d : X) → i < length xs → any_of (hit (get_or xs i d)) (take i xs) ≡ false → Later hit xs (i + 1)
    later_on d l a = let b = rw a at (later_head d l) in record { high = omega arith; left = omega (arith, b) }

    pub earlier_start : (x : X) → Earlier hit xs x i 0
    earlier_start x = record { high = omega arith; left = refl }

    module _ (d : X) (j : ℕ) (h : Earlier hit xs (get_or xs i d) i j) (l : i < length xs) where
      pub earlier_end : i ≤ j → Later hit xs (i + 1)
      earlier_end m =
          let e : j ≡ i = omega (arith, h.high) in
          later_on d l (rw (e, slice_empty i xs) at h.left)

      -- entry number j is the first of the earlier ones that are left
      earlier_head : j < i
          → any_of (hit (get_or xs i d)) (take i xs) ≡ pick (hit (get_or xs i d) (get_or xs j d)) true (any_of (hit (get_or xs i d)) (slice (j + 1) i xs))
      earlier_head m =
          let a : slice j i xs ≡ get_or xs j d ∷ slice (suc j) i xs = slice-cons j i xs d m (omega arith) in
          rw add-one (rw a at h.left)

      module _ (r : Bool) (s : r ≡ hit (get_or xs i d) (get_or xs j d)) (m : j < i) where
        pub earlier_on : r ≡ false → Earlier hit xs (get_or xs i d) i (j + 1)
        earlier_on e = record { high = omega arith; left = rw (← s, e) at (earlier_head m) }

        pub earlier_hit : r ≡ true → i ≡ first_hit hit [] xs
        earlier_hit e =
            let a : any_of (hit (get_or xs i d)) (take i xs) ≡ true = rw (← s, e) at (earlier_head m) in
            let b = rw a at (later_head d l) in
            omega (arith, b)
