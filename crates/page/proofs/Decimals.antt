-- A number's digits from the last to the first: what the loop keeps, and one law for each way on and out of it.
use Prim.Native.Nat.{ℕ, zero, suc, ◌+◌, ◌-◌, ◌*◌, ◌/◌, ◌%◌, ◌≤◌, ◌<◌}
use mathlib.Core.List.{List, [], ◌∷◌}
use mathlib.Core.Path.{◌≡◌, sym, subst, ◌∙◌}
use native.Mathlib.Omega.{arith}
use lib.ListN.{length, drop, set, length-set}
use lib.Seq.{drop-cons, drop-set-lt, drop-length, get_or-set_same}
use mir.Syntax.{w64}
use mir.Val.{Fits}
use Rattle.meaning.specs.Print.{decimal}
use Rattle.laws.specs.Decimals.{digits_of, tens, last_digit, more_digits}
use Rattle.page.specs.Page.{Digits}

-- what is left of a number, before the digits that stand from the next place on, and places enough for it
pub record Spelling (number : ℕ) (room : List ℕ) (n i : ℕ) : Type 0 where
  pub long : length room ≡ 20
  pub high : i ≤ 19
  pub fits : n < tens (suc i)
  pub left : digits_of n (drop (i + 1) room) ≡ decimal number

pub spell_start : (room : List ℕ) (n : ℕ) → length room ≡ 20 → Fits w64 n → Spelling n room n 19
unfolding decimal
spell_start room n h f =
    let e : drop 20 room ≡ [] = rw (← h) (drop-length room) in
    record { long = h; high = omega arith; fits = omega (arith, f.fits); left = rw e }

-- a byte set, and those after it
from_set : (room : List ℕ) (i v : ℕ) → i < length room → drop i (set room i v) ≡ v ∷ drop (i + 1) room
from_set room i v h =
    let e : suc i ≡ i + 1 = omega arith in
    drop-cons (set room i v) i 0 (rw length-set h)
    ∙ rw (get_or-set_same room i v 0 h, e, drop-set-lt (i + 1) room i v (omega arith))

module _ (number : ℕ) (room : List ℕ) (n i : ℕ) where
  -- a number of two digits has a place before its last
  pub spell_more : Spelling number room n i → 10 ≤ n → 1 ≤ i
  spell_more s h = by i s.fits
    where
      by : (j : ℕ) → n < tens (suc j) → 1 ≤ j
      by zero f = absurd (omega (arith, f, h))
      by (suc j) f = omega arith

  pub spell_on : Spelling number room n i → 10 ≤ n → Spelling number (set room i (48 + n % 10)) (n / 10) (i - 1)
  spell_on s h =
      let z : 1 ≤ i = spell_more s h in
      let e : i - 1 + 1 ≡ i = omega arith in
      let d : suc (i - 1) ≡ i = omega arith in
      let k : n < 10 * tens i = s.fits in
      record {
        long = length-set room i (48 + n % 10) ∙ s.long;
        high = omega (arith, s.high);
        fits = subst (λ (m : ℕ). n / 10 < tens m) (sym d) (omega (arith, k));
        left = rw (e, from_set room i (48 + n % 10) (omega (arith, s.long, s.high))) (sym (more_digits n (drop (i + 1) room) h) ∙ s.left);
      }

  -- the first digit: none is left before it
  pub spell_end : Spelling number room n i → n < 10 → Digits number (set room i (48 + n)) i
  spell_end s h =
      record {
        long = length-set room i (48 + n) ∙ s.long;
        begins = omega (arith, s.high);
        says =
            from_set room i (48 + n) (omega (arith, s.long, s.high))
            ∙ sym (last_digit n (drop (i + 1) room) h)
            ∙ s.left;
      }
