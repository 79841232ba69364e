-- What a search by blocks keeps, with one law for each way on and out of it, and what the library says of two byte strings.
use Prim.Native.Nat.{ℕ, zero, suc, ◌+◌, ◌-◌, ◌≤◌, ◌<◌}
use mathlib.Core.Bool.{Bool, true, false}
use mathlib.Core.List.{List, [], ◌∷◌, ◌++◌, append_assoc}
use mathlib.Core.Path.{◌≡◌, refl, sym, ap, ◌∙◌}
use native.Mathlib.Omega.{arith}
use native.Mathlib.Numerals.{add-one}
use native.Mathlib.Nat.{add-zero}
use borrow.Author.Tests.{ltb-true, ltb-false, eqb-true}
use lib.Bits.{bit_or, or_add_and, and_le_l, and_le_r}
use lib.Dec.{eqb, ltb}
use lib.ListN.{length, get_or, take, drop, set, length-set, drop_of_length-le}
use lib.Seq.{drop-cons, take-suc, take-length, set_at, length-take-le}
use Rattle.std.proofs.lemmas.Bool.Decides.{nat_tests}
use Rattle.std.proofs.lemmas.Cmp.{same_from_slice_cmp}
use Rattle.std.specs.Cmp.Lexicographic.{pointwise, slice_cmp}
use Rattle.std.proofs.Common.{Ordering, nat_cmp, is_lt}
use Rattle.meaning.specs.Base.{same, less}
use Rattle.laws.specs.Cases.{on}
use Rattle.laws.specs.Order.{same_eq}
use Rattle.slices.specs.Found.{Other, Free, lead, Passed, Led}

-- ---- searches

-- what a loop over a block gathers is 0 only if the search goes on at each byte so far
pub record Freeing (stop : ℕ → Bool) (s : List ℕ) (at k r : ℕ) : Type 0 where
  pub high : k ≤ 16
  pub all : r ≡ 0 → Free stop s at k

module _ (stop : ℕ → Bool) (s : List ℕ) (at : ℕ) where
  pub free_start : Freeing stop s at 0 0
  free_start = record { high = omega arith; all = λ z. record { all = λ k l. absurd (omega arith) } }

  module _ (k r : ℕ) (a : Freeing stop s at k r) where
    pub free_on : (x : ℕ) → k < 16 → (x ≡ 0 → Other stop (get_or s (at + k) 0)) → Freeing stop s at (k + 1) (bit_or r x)
    free_on x h b = record { high = omega arith; all = λ z. record { all = go z } }
      where
        go : bit_or r x ≡ 0 → (i : ℕ) → i < k + 1 → Other stop (get_or s (at + i) 0)
        go z i l =
            on (ltb i k)
            (λ t. (a.all (omega (arith, or_add_and r x, and_le_r r x))).all i (ltb-true i k t))
            (λ t.
            let e : i ≡ k = omega (arith, ltb-false i k t) in
            rw e (b (omega (arith, or_add_and r x, and_le_l r x))))

    pub free_end : 16 ≤ k → eqb r 0 ≡ true → Free stop s at 16
    free_end h e =
        let n : k ≡ 16 = omega (arith, a.high) in
        rw n at (a.all (eqb-true r 0 e))

module _ (stop : ℕ → Bool) (s : List ℕ) (i : ℕ) (a : Passed stop s i) where
  pub led_on : i < length s → stop (get_or s i 0) ≡ false → Passed stop s (i + 1)
  led_on h n =
      let k : lead stop (drop i s) ≡ suc (lead stop (drop (i + 1) s)) = rw (drop-cons s i 0 h, n, add-one) in
      record { high = omega arith; left = omega (arith, a.left) }

  pub led_hit : i < length s → stop (get_or s i 0) ≡ true → Led stop s i
  led_hit h e =
      let k : lead stop (drop i s) ≡ 0 = rw (drop-cons s i 0 h, e) in
      record { is = omega (arith, a.left); fits = a.high }

  pub led_end : length s ≤ i → Led stop s i
  led_end h =
      let k : lead stop (drop i s) ≡ 0 = rw (drop_of_length-le s h) in
      record { is = omega (arith, a.left); fits = a.high }

passed : (n : ℕ) (stop : ℕ → Bool) (s : List ℕ) (i : ℕ) → Passed stop s i → i + n ≤ length s → Free stop s i n → Passed stop s (i + n)
passed zero stop s i a h f = rw (add-zero i) a
passed (suc n) stop s i a h f =
    let e : i + n + 1 ≡ i + suc n = omega arith in
    rw e at (led_on stop s (i + n) (passed n stop s i a (omega arith) (record { all = λ k l. f.all k (omega arith) })) (omega arith) (f.all n (omega arith)).not)

-- a block passed over
pub past_on : (stop : ℕ → Bool) (s : List ℕ) (i : ℕ) (r : Bool) → Passed stop s i → 16 ≤ length s - i → (r ≡ true → Free stop s i 16) → r ≡ true → Passed stop s (i + 16)
past_on stop s i r a h f t = passed 16 stop s i a (omega (arith, a.high)) (f t)

-- ---- same
pub same_told : (a b : List ℕ) → pointwise eqb a b ≡ same a b
same_told [] [] = refl
same_told [] (y ∷ b) = refl
same_told (x ∷ a) [] = refl
same_told (x ∷ a) (y ∷ b) = rw (same_told a b) (on (eqb x y) (λ t. rw t) (λ t. rw t))

pub same_not : (a b : List ℕ) → (a ≡ b → ⊥) → false ≡ same a b
same_not a b e = on (same a b) (λ t. absurd (e (same_eq a b t))) (λ t. sym t)

-- ---- less
pub less_told : (a b : List ℕ) (o : Ordering) → o ≡ slice_cmp nat_cmp a b → is_lt o ≡ less a b
less_told = same_from_slice_cmp nat_cmp is_lt less refl (λ _ _. refl) (λ _ _. refl) (λ x y a b o h. grind (arith, nat_tests))

-- ---- a list laid over another, byte by byte
pub record Laid (src dst₀ dst : List ℕ) (i : ℕ) : Type 0 where
  pub high : i ≤ length src
  pub room : length src ≤ length dst₀
  pub long : length dst ≡ length dst₀
  pub left : dst ≡ take i src ++ drop i dst₀

pub laid_start : (src dst : List ℕ) → length src ≤ length dst → Laid src dst dst 0
laid_start src dst h = record { high = omega arith; room = h; long = refl; left = refl }

pub laid_on : (src dst₀ dst : List ℕ) (i : ℕ) → Laid src dst₀ dst i → i < length src → Laid src dst₀ (set dst i (get_or src i 0)) (i + 1)
laid_on src dst₀ dst i k h =
    let l : i < length dst₀ = omega arith in
    let n : length (take i src) ≡ i = length-take-le i src (omega arith) in
    record {
      high = omega arith;
      room = k.room;
      long = length-set dst i (get_or src i 0) ∙ k.long;
      left =
          ap (λ (d : List ℕ). set d i (get_or src i 0)) (k.left ∙ ap (λ (d : List ℕ). take i src ++ d) (drop-cons dst₀ i 0 l))
          ∙ set_at (take i src) (get_or dst₀ i 0) (drop (suc i) dst₀) (get_or src i 0) i n
          ∙ rw (add-one, take-suc src i 0 h) (sym (append_assoc (take i src) (get_or src i 0 ∷ []) (drop (suc i) dst₀)));
    }

pub laid_end : (src dst₀ dst : List ℕ) (i : ℕ) → Laid src dst₀ dst i → length src ≤ i → dst ≡ src ++ drop (length src) dst₀
laid_end src dst₀ dst i k h =
    let e : i ≡ length src = omega arith in
    k.left ∙ rw (e, take-length src)
