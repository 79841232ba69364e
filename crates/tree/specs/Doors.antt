-- Reading doors: what a value is, where a table's children stand, a field of it, and the items of an array.
use Rattle.std.specs.Prelude.{ℕ, zero, suc, ◌+◌, ◌-◌, ◌/◌, ◌%◌, ◌≤◌, ◌<◌, Bool, true, false, List, [], ◌∷◌, eqb, leb, length, unwrap_or, Option, Some, None}
use Rattle.meaning.specs.Base.{pick}
use Rattle.tree.specs.declared.Slot.{Slot}
use Rattle.tree.specs.declared.Value.{Value}
use Rattle.tree.specs.declared.Value.TheVariants.{Absent, Text, Number, Flag, Array, Table}
use Rattle.tree.specs.declared.Fields.{Fields}
use Rattle.tree.specs.Room.{Holds, slot_at, under, mine, child}

-- ---- what a value is

-- number n of the values made, whose place is a number of two bytes
pub record Stood (room : List ℕ) (n : ℕ) : Type 0 where
  pub fits : Holds room (n + 1)
  pub low : n < 65000

-- the values made, whose places are numbers of two bytes
pub record Rooms (room : List ℕ) (made : ℕ) : Type 0 where
  pub fits : Holds room made
  pub low : made ≤ 65000

abbrev pub nonzero : ℕ → Bool
nonzero n = pick (eqb n 0) false true

-- a string's bytes by its data; what runs past the store is none, and no text that is read is longer than 65,535 bytes
unfoldable pub text_of : ℕ → ℕ → Value
text_of bits size = pick (leb bits 4294967295) (pick (leb (bits % 65536 + bits / 65536) size) (Text (bits % 65536) (bits / 65536)) Absent) Absent

-- what a slot is, at its place; a minus before 0 says nothing
unfoldable pub value_of : Slot → ℕ → ℕ → Value
value_of v size place =
    pick (eqb v.kind 1) (text_of v.«data» size)
    (pick (eqb v.kind 2) (Number false v.«data»)
    (pick (eqb v.kind 3) (Flag (nonzero v.«data»))
    (pick (eqb v.kind 4) (Array place)
    (pick (eqb v.kind 5) (Table place)
    (pick (eqb v.kind 6) (Number (nonzero v.«data») v.«data») Absent)))))

abbrev pub value_at : List ℕ → List ℕ → ℕ → Value
value_at room store n = value_of (slot_at room n) (length store) (n + 2)

-- ---- a table's fields

-- one past the newest of the values made that hangs under the parent; 0 where none does
abbrev pub newest : List ℕ → ℕ → ℕ → ℕ
newest room zero parent = 0
newest room (suc n) parent = pick (under room n parent) (suc n) (newest room n parent)

-- a table's place, its first child and one past its newest
unfoldable pub fields_of : List ℕ → ℕ → ℕ → Fields
fields_of room made place =
    record {
      place = place;
      from = unwrap_or (child room (newest room made place) place 0) (newest room made place);
      to = newest room made place;
    }

-- no table: it has no fields
abbrev pub no_fields : Fields
no_fields = record { place = 0; from = 0; to = 0 }

-- the fields stand among the values made
pub record Spread (room : List ℕ) (f : Fields) : Type 0 where
  pub order : f.from ≤ f.to
  pub fits : Holds room f.to
  pub low : f.to ≤ 65000

-- the newest of k values from number from on that has the parent and the key
abbrev pub look_in : List ℕ → List ℕ → ℕ → ℕ → ℕ → List ℕ → Option ℕ
look_in room store from zero parent key = None
look_in room store from (suc k) parent key = pick (mine room store (from + k) parent key) (Some (from + k)) (look_in room store from k parent key)

-- the newest from one number to before another
abbrev pub sought : List ℕ → List ℕ → ℕ → ℕ → ℕ → List ℕ → Option ℕ
sought room store from to parent key = look_in room store from (to - from) parent key

unfoldable pub among : List ℕ → List ℕ → Fields → List ℕ → Option ℕ
among room store f key = look_in room store f.from (f.to - f.from) f.place key

abbrev pub value_found : List ℕ → List ℕ → Option ℕ → Value
value_found room store (Some n) = value_at room store n
value_found room store None = Absent

-- a table's field
unfoldable pub field : List ℕ → List ℕ → Fields → List ℕ → Value
field room store f key = value_found room store (among room store f key)

-- ---- an array's items

-- the numbers of those of k values from number i on that hang under the parent, in their order
abbrev pub items_in : List ℕ → ℕ → ℕ → ℕ → List ℕ
items_in room parent zero i = []
items_in room parent (suc k) i = pick (under room i parent) (i ∷ items_in room parent k (i + 1)) (items_in room parent k (i + 1))

-- from a number on
unfoldable pub items : List ℕ → ℕ → ℕ → ℕ → List ℕ
items room made parent from = items_in room parent (made - from) from

-- the first of some numbers, and number i of them
abbrev pub first_of : List ℕ → Option ℕ
first_of [] = None
first_of (n ∷ ns) = Some n

abbrev pub nth_of : List ℕ → ℕ → Option ℕ
nth_of [] i = None
nth_of (n ∷ ns) zero = Some n
nth_of (n ∷ ns) (suc i) = nth_of ns i
