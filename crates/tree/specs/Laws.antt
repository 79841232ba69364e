-- A value once made is read back as made, and making or hanging up another leaves it alone.
use Rattle.std.specs.Prelude.{ℕ, zero, suc, ◌+◌, ◌*◌, ◌-◌, ◌≤◌, ◌<◌, List, ◌≡◌, refl, ltb, length, Option, Some}
use Rattle.std.proofs.Common.{sym, ◌∙◌, arith, add-zero}
use Rattle.std.proofs.Math.Path.{ap}
use Rattle.std.proofs.Math.Dec.{eqb}
use Rattle.std.proofs.Math.ListN.{get_or}
use borrow.Author.Tests.{ltb-true, ltb-false}
use Rattle.meaning.specs.Base.{zeros}
use Rattle.laws.specs.Cases.{on}
use Rattle.laws.specs.Stored.{stored, length_stored, stored_in, stored_again}
use Rattle.slices.specs.Numbers.{number, number_little, number_in, number_before, number_after}
use Rattle.tree.specs.declared.Slot.{Slot}
use Rattle.tree.specs.Room.{Holds, Sized, From, Below, place, body, cell, slot_at, hung, under, mine, look, first, child, count}

pub length_cell : (v : Slot) → length (cell v) ≡ 32
unfolding cell place body
length_cell v = refl

-- the room is as long as before
pub length_put : (room : List ℕ) (n : ℕ) (v : Slot) → Holds room (n + 1) → length (stored room (32 * n) (cell v)) ≡ length room
length_put room n v h = length_stored room (32 * n) (cell v) (omega (arith, h.fits, length_cell v))

module _ (room : List ℕ) (n : ℕ) (v : Slot) (h : Holds room (n + 1)) where
  low : 32 * n ≤ length room
  low = omega (arith, h.fits)

  number_cell : (k i : ℕ) → i + k ≤ 32 → number k (stored room (32 * n) (cell v)) (32 * n + i) ≡ number k (cell v) i
  number_cell k i l = number_in k room (32 * n) (cell v) low i (omega (arith, length_cell v))

  pub slot_same : Sized v → slot_at (stored room (32 * n) (cell v)) n ≡ v
  unfolding slot_at cell place body
  slot_same s =
      let e : get_or (stored room (32 * n) (cell v)) (32 * n) 0 ≡ v.kind =
      rw (add-zero (32 * n)) at (stored_in room (32 * n) (cell v) 0 low (omega (arith, length_cell v))) in
      let p : number 2 (stored room (32 * n) (cell v)) (32 * n + 2) ≡ v.parent = number_cell 2 2 (omega arith) ∙ number_little 2 v.parent s.parent in
      let k : number 2 (stored room (32 * n) (cell v)) (32 * n + 4) ≡ v.key = number_cell 2 4 (omega arith) ∙ number_little 2 v.key s.key in
      let l : number 2 (stored room (32 * n) (cell v)) (32 * n + 6) ≡ v.len = number_cell 2 6 (omega arith) ∙ number_little 2 v.len s.len in
      let d : number 8 (stored room (32 * n) (cell v)) (32 * n + 8) ≡ v.«data» = number_cell 8 8 (omega arith) ∙ number_little 8 v.«data» s.bits in
      rw (e, p, k, l, d)

  -- hanging up changes the cell that was written, and nothing else
  pub hang_made : (parent key len : ℕ) → Sized v
      → stored (stored room (32 * n) (cell v)) (32 * n) (cell (hung parent key len (slot_at (stored room (32 * n) (cell v)) n)))
      ≡ stored room (32 * n) (cell (hung parent key len v))
  hang_made parent key len s =
      let w : Slot = hung parent key len v in
      ap (λ (x : Slot). stored (stored room (32 * n) (cell v)) (32 * n) (cell (hung parent key len x))) (slot_same s)
      ∙ stored_again room (32 * n) (cell v) (cell w) low (length_cell w ∙ sym (length_cell v))

  -- any k bytes of another value
  apart : (m k i : ℕ) → (m ≡ n → ⊥) → i + k ≤ 32 → number k (stored room (32 * n) (cell v)) (32 * m + i) ≡ number k room (32 * m + i)
  apart m k i d l =
      on (ltb m n)
      (λ t. number_before k room (32 * n) (cell v) low (32 * m + i) (omega (arith, ltb-true m n t)))
      (λ t. number_after k room (32 * n) (cell v) low (32 * m + i) (omega (arith, ltb-false m n t, length_cell v)))

  pub slot_other : (m : ℕ) → (m ≡ n → ⊥) → slot_at (stored room (32 * n) (cell v)) m ≡ slot_at room m
  unfolding slot_at
  slot_other m d =
      let e : get_or (stored room (32 * n) (cell v)) (32 * m) 0 ≡ get_or room (32 * m) 0 = omega (arith, rw (add-zero (32 * m)) at (apart m 1 0 d (omega arith))) in
      rw (e, apart m 2 2 d (omega arith), apart m 2 4 d (omega arith), apart m 2 6 d (omega arith), apart m 8 8 d (omega arith))

  -- what was made before is found, walked and counted as before
  pub under_other : (m parent : ℕ) → (m ≡ n → ⊥) → under (stored room (32 * n) (cell v)) m parent ≡ under room m parent
  unfolding under
  under_other m parent d = ap (λ (x : Slot). eqb x.parent parent) (slot_other m d)

  pub mine_other : (store : List ℕ) (m parent : ℕ) (key : List ℕ) → (m ≡ n → ⊥)
      → mine (stored room (32 * n) (cell v)) store m parent key ≡ mine room store m parent key
  unfolding mine
  mine_other store m parent key d = rw (under_other m parent d, slot_other m d)

  pub look_kept : (store : List ℕ) (made parent : ℕ) (key : List ℕ) → made ≤ n
      → look (stored room (32 * n) (cell v)) store made parent key ≡ look room store made parent key
  look_kept store zero parent key l = refl
  look_kept store (suc m) parent key l =
      let e = look_kept store m parent key (omega arith) in
      rw (mine_other store m parent key (λ q. omega arith), e)

  first_kept : (parent k i : ℕ) → i + k ≤ n → first (stored room (32 * n) (cell v)) parent k i ≡ first room parent k i
  first_kept parent zero i l = refl
  first_kept parent (suc k) i l =
      let e = first_kept parent k (i + 1) (omega arith) in
      rw (under_other i parent (λ q. omega arith), e)

  pub child_kept : (made parent from : ℕ) → made ≤ n → child (stored room (32 * n) (cell v)) made parent from ≡ child room made parent from
  unfolding child
  child_kept made parent from l =
      on (ltb made from)
      (λ t. let e : made - from ≡ 0 = omega (arith, ltb-true made from t) in rw e)
      (λ t. first_kept parent (made - from) from (omega (arith, ltb-false made from t)))

  pub count_kept : (made parent : ℕ) → made ≤ n → count (stored room (32 * n) (cell v)) made parent ≡ count room made parent
  count_kept zero parent l = refl
  count_kept (suc m) parent l =
      let e = count_kept m parent (omega arith) in
      rw (under_other m parent (λ q. omega arith), e)

-- ---- a room of zeros holds no value
get_or_zeros : (k i : ℕ) → get_or (zeros k) i 0 ≡ 0
get_or_zeros zero i = refl
get_or_zeros (suc k) zero = refl
get_or_zeros (suc k) (suc i) = get_or_zeros k i

pub kind_zeros : (k n : ℕ) → (slot_at (zeros k) n).kind ≡ 0
unfolding slot_at
kind_zeros k n = get_or_zeros k (32 * n)

number_zeros : (w k at : ℕ) → number w (zeros k) at ≡ 0
number_zeros zero k at = refl
number_zeros (suc w) k at = rw (number_zeros w k (at + 1), get_or_zeros k at)

pub slot_zeros : (k n : ℕ) → slot_at (zeros k) n ≡ record { kind = 0; parent = 0; key = 0; len = 0; «data» = 0 }
unfolding slot_at
slot_zeros k n =
    rw (
      get_or_zeros k (32 * n),
      number_zeros 2 k (32 * n + 2),
      number_zeros 2 k (32 * n + 4),
      number_zeros 2 k (32 * n + 6),
      number_zeros 8 k (32 * n + 8),
    )

-- ---- the bounds of a number that was found
pub found_below : (r : Option ℕ) (high n : ℕ) → Below high r → r ≡ Some n → n < high
found_below r high n b e = rw e at b

pub found_from : (r : Option ℕ) (low n : ℕ) → From low r → r ≡ Some n → low ≤ n
found_from r low n b e = rw e at b

-- what was put is got
pub put_got : (room room' : List ℕ) (n : ℕ) (v r : Slot) → Holds room (n + 1) → Sized v → room' ≡ stored room (32 * n) (cell v) → r ≡ slot_at room' n → r ≡ v
put_got room room' n v r h s e f = f ∙ ap (λ (x : List ℕ). slot_at x n) e ∙ slot_same room n v h s
