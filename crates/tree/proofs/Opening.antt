-- The reading doors: what each test says, what each loop keeps, and one law for each way on and out of it.
use Prim.Native.Nat.{ℕ, zero, suc, ◌+◌, ◌-◌, ◌≤◌, ◌<◌}
use mathlib.Core.Bool.{Bool, true, false}
use mathlib.Core.List.{List}
use mathlib.Core.Path.{◌≡◌, refl, sym, ap, ◌∙◌}
use native.Mathlib.Omega.{arith}
use lib.ListN.{length}
use Rattle.tree.specs.declared.Slot.{Slot}
use Rattle.std.specs.Prelude.{Option, Some, None, unwrap_or}
use Rattle.tree.specs.declared.Value.{Value}
use Rattle.tree.specs.declared.Value.TheVariants.{Absent, Number, Flag, Array, Table}
use Rattle.tree.specs.declared.Fields.{Fields}
use Rattle.tree.specs.Room.{Holds, slot_at, under, mine, child, Finds}
use Rattle.tree.specs.Doors.{Stood, Spread, nonzero, value_of, value_at, newest, fields_of, look_in, among, field, items_in, items, nth_of}
use Rattle.tree.specs.Laws.{found_below}
use Rattle.tree.specs.Spans.{newest_high}

-- ---- one value
module _ (v : Slot) (size place : ℕ) where
  pub kind_integer : v.kind ≡ 2 → Number false v.«data» ≡ value_of v size place
  unfolding value_of
  kind_integer e = rw e

  pub kind_flag : (r : Bool) → v.kind ≡ 3 → r ≡ nonzero v.«data» → Flag r ≡ value_of v size place
  unfolding value_of
  kind_flag r e h = rw (e, h)

  pub kind_array : v.kind ≡ 4 → Array place ≡ value_of v size place
  unfolding value_of
  kind_array e = rw e

  pub kind_table : v.kind ≡ 5 → Table place ≡ value_of v size place
  unfolding value_of
  kind_table e = rw e

  pub kind_minus : (r : Bool) → v.kind ≡ 6 → r ≡ nonzero v.«data» → Number r v.«data» ≡ value_of v size place
  unfolding value_of
  kind_minus r e h = rw (e, h)

pub value_is : (room store : List ℕ) (n : ℕ) (v : Slot) (r : Value) → v ≡ slot_at room n → r ≡ value_of v (length store) (n + 2) → r ≡ value_at room store n
value_is room store n v r e f = f ∙ ap (λ (w : Slot). value_of w (length store) (n + 2)) e

-- ---- newest
pub record Sinking (tree : List ℕ) (made parent i : ℕ) : Type 0 where
  pub high : i ≤ made
  pub left : newest tree i parent ≡ newest tree made parent

module _ (tree : List ℕ) (made parent : ℕ) where
  pub sink_room : (i : ℕ) → Holds tree made → Sinking tree made parent i → 0 < i → Holds tree (i - 1 + 1)
  sink_room i h k l = record { fits = omega (arith, h.fits) }

  pub sink_on : (i : ℕ) (r : Bool) → Sinking tree made parent i → 0 < i → r ≡ under tree (i - 1) parent → r ≡ false → Sinking tree made parent (i - 1)
  sink_on zero r k h e f = absurd (omega arith)
  sink_on (suc i) r k h e f =
      let d : suc i - 1 ≡ i = omega arith in
      let m : under tree i parent ≡ false = sym (rw d at e) ∙ f in
      record { high = omega arith; left = rw d (rw m at k.left) }

  pub sink_hit : (i : ℕ) (r : Bool) → Sinking tree made parent i → 0 < i → r ≡ under tree (i - 1) parent → r ≡ true → i ≡ newest tree made parent
  sink_hit zero r k h e f = absurd (omega arith)
  sink_hit (suc i) r k h e f =
      let d : suc i - 1 ≡ i = omega arith in
      let m : under tree i parent ≡ true = sym (rw d at e) ∙ f in
      rw m at k.left

  pub sink_end : (i : ℕ) → Sinking tree made parent i → i ≤ 0 → 0 ≡ newest tree made parent
  sink_end zero k h = k.left
  sink_end (suc i) k h = absurd (omega arith)

-- ---- fields_at
module _ (tree : List ℕ) (made place to : ℕ) (e : to ≡ newest tree made place) where
  pub newest_room : Holds tree made → Holds tree to
  newest_room h = record { fits = omega (arith, h.fits, newest_high tree place made) }

  pub fields_is : (r : Option ℕ) → Finds 0 to (child tree to place 0) r → record { place = place; from = unwrap_or r to; to = to } ≡ fields_of tree made place
  unfolding fields_of
  fields_is r h = rw (← e, h.is)

-- ---- seek
pub record Seeking (tree store key : List ℕ) (from to place i : ℕ) : Type 0 where
  pub low : from ≤ i
  pub high : i ≤ to
  pub left : look_in tree store from (i - from) place key ≡ look_in tree store from (to - from) place key

module _ (tree store key : List ℕ) (from to place : ℕ) where
  pub seek_start : from ≤ to → Seeking tree store key from to place to
  seek_start h = record { low = h; high = omega arith; left = refl }

  module _ (i : ℕ) (k : Seeking tree store key from to place i) where
    pub seek_room : Holds tree to → from < i → Holds tree (i - 1 + 1)
    seek_room h l = record { fits = omega (arith, h.fits) }

    pub seek_end : i ≤ from → Finds from to (look_in tree store from (to - from) place key) None
    seek_end l =
        let d : i - from ≡ 0 = omega arith in
        record { is = rw d at k.left; from = tt; below = tt }

    module _ (l : from < i) (r : Bool) (e : r ≡ mine tree store (i - 1) place key) where
      there : i - from ≡ suc (i - 1 - from)
      there = omega arith

      here : from + (i - 1 - from) ≡ i - 1
      here = omega arith

      pub seek_on : r ≡ false → Seeking tree store key from to place (i - 1)
      seek_on t = record { low = omega arith; high = omega arith; left = rw (there, here, ← e, t) at k.left }

      pub seek_hit : r ≡ true → Finds from to (look_in tree store from (to - from) place key) (Some (i - 1))
      seek_hit t = record { is = rw (there, here, ← e, t) at k.left; from = omega arith; below = omega arith }

-- ---- among
pub among_is : (tree store key : List ℕ) (f : Fields) (r : Option ℕ) → Finds f.from f.to (look_in tree store f.from (f.to - f.from) f.place key) r
    → Finds f.from f.to (among tree store f key) r
unfolding among
among_is tree store key f r h = h

-- ---- field
module _ (tree store key : List ℕ) (f : Fields) (r : Option ℕ) (h : Finds f.from f.to (among tree store f key) r) where
  pub field_stood : (n : ℕ) → Spread tree f → r ≡ Some n → Stood tree n
  field_stood n s e =
      let b : n < f.to = found_below r f.to n h.below e in
      record { fits = record { fits = omega (arith, s.fits.fits) }; low = omega (arith, s.low) }

  pub field_some : (n : ℕ) (v : Value) → r ≡ Some n → v ≡ value_at tree store n → v ≡ field tree store f key
  unfolding field
  field_some n v e g = let c : among tree store f key ≡ Some n = sym h.is ∙ e in rw c g

  pub field_none : r ≡ None → Absent ≡ field tree store f key
  unfolding field
  field_none e = let c : among tree store f key ≡ None = sym h.is ∙ e in rw c

-- ---- nth
pub record Passing (tree : List ℕ) (made parent i left from : ℕ) : Type 0 where
  pub rest : nth_of (items_in tree parent (made - from) from) left ≡ nth_of (items tree made parent 0) i

module _ (tree : List ℕ) (made parent i : ℕ) where
  pub pass_start : Passing tree made parent i i 0
  unfolding items
  pass_start = record { rest = refl }

  module _ (left from : ℕ) (k : Passing tree made parent i left from) where
    pub pass_end : made ≤ from → Finds 0 made (nth_of (items tree made parent 0) i) None
    pass_end l =
        let d : made - from ≡ 0 = omega arith in
        record { is = rw d at k.rest; from = tt; below = tt }

    module _ (l : from < made) (r : Bool) (e : r ≡ under tree from parent) where
      step : made - from ≡ suc (made - (from + 1))
      step = omega arith

      pub pass_over : r ≡ false → Passing tree made parent i left (from + 1)
      pass_over t = record { rest = rw (step, ← e, t) at k.rest }

      pub pass_on : r ≡ true → (left ≡ 0 → ⊥) → Passing tree made parent i (left - 1) (from + 1)
      pass_on t n =
          let d : left ≡ suc (left - 1) = omega arith in
          record { rest = rw (step, ← e, t) at (rw d at k.rest) }

      pub pass_hit : r ≡ true → left ≡ 0 → Finds 0 made (nth_of (items tree made parent 0) i) (Some from)
      pass_hit t z = record { is = rw (step, ← e, t) at (rw z at k.rest); from = omega arith; below = l }
