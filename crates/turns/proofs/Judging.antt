-- Entries in turn: one law for each way on and out.
use Prim.Native.Nat.{ℕ, ◌+◌, ◌≤◌, ◌<◌}
use mathlib.Core.Bool.{Bool}
use mathlib.Core.List.{List, ◌∷◌}
use mathlib.Core.Path.{◌≡◌, sym}
use native.Mathlib.Omega.{arith}
use native.Mathlib.Numerals.{add-one}
use lib.Dec.{eqb}
use lib.ListN.{length, get_or, drop, drop_of_length-le}
use lib.Seq.{drop-cons}
use Rattle.std.proofs.Common.{Result, Ok, Err}
use Rattle.std.proofs.lemmas.List.{get_or_read}
use Rattle.meaning.specs.Base.{same}
use Rattle.turns.specs.declared.Mark.{Mark}
use Rattle.turns.specs.Marks.{same_name, entry_checked, at_place, first_refused, twin, judged_by}
use Rattle.turns.specs.Turns.{twin_checked}

-- two calls that read byte strings, and one that compares them
pub same_of : (x y p q : List ℕ) (r : Bool) → r ≡ same x y → x ≡ p → y ≡ q → r ≡ same p q
same_of x y p q r e f g = rw (← f, ← g) e

-- ---- entry after entry

-- two entries as they were read
pub same_read : {R : Type 0} (bytes : List ℕ) (xs : List (Mark R)) (i j : ℕ) (x y d : Mark R) (r : Bool) → i < length xs → j < i → x ≡ get_or xs i x → y ≡ get_or xs j y
    → r ≡ same_name bytes x y → r ≡ same_name bytes (get_or xs i d) (get_or xs j d)
same_read bytes xs i j x y d r l m e f s = rw (← get_or_read xs i x l e d, ← get_or_read xs j y (omega arith) f d) s

-- the twin is known, and no entry before number i is refused
pub record Faulting {R : Type 0} (twice : R) (bytes : List ℕ) (t : ℕ) (xs : List (Mark R)) (i : ℕ) : Type 0 where
  pub high : i ≤ length xs
  pub left : judged_by twice bytes xs ≡ first_refused twice t i (drop i xs)

module _ {R : Type 0} (twice : R) (bytes : List ℕ) (t : ℕ) (xs : List (Mark R)) where
  pub first_start : t ≡ twin bytes xs → Faulting twice bytes t xs 0
  first_start e = record { high = omega arith; left = rw e (sym (twin_checked twice bytes xs)) }

  module _ (i : ℕ) (k : Faulting twice bytes t xs i) where
    pub first_end : length xs ≤ i → Ok tt ≡ judged_by twice bytes xs
    first_end l = sym (rw (drop_of_length-le xs l) at k.left)

    module _ (m : Mark R) (l : i < length xs) (f : m ≡ get_or xs i m) (r : Result (Unit {0}) R) (e : r ≡ entry_checked twice (eqb i t) m) where
      first_head : judged_by twice bytes xs ≡ at_place i r (first_refused twice t (i + 1) (drop (i + 1) xs))
      first_head =
          let a : drop i xs ≡ m ∷ drop (i + 1) xs = rw (f, add-one) (drop-cons xs i m l) in
          rw e (rw a at k.left)

      pub first_on : (u : Unit {0}) → r ≡ Ok u → Faulting twice bytes t xs (i + 1)
      first_on u g = record { high = omega arith; left = rw g at first_head }

      pub first_here : (refused : R) → r ≡ Err refused → Err (record { refused = refused; place = i }) ≡ judged_by twice bytes xs
      first_here refused g = sym (rw g at first_head)
