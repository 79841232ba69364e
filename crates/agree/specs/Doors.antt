-- The reading doors show the tree of 01: what they say of a place that stands for a value, of a table's fields, an array's items and a walk by key.
use Rattle.std.specs.Prelude.{ℕ, suc, ◌+◌, ◌≤◌, ◌<◌, List, ◌≡◌, pos, negsuc, length}
use Rattle.std.proofs.Math.Bool.{true, false}
use Rattle.std.proofs.Math.Option.{Option, none, some}
use Rattle.meaning.specs.Base.{part}
use Rattle.meaning.specs.Tree.{Value, str, int, boolean, array, table}
use Rattle.meaning.specs.Fields.{Row}
use Rattle.tree.specs.declared.Slot.{Slot}
use Rattle.tree.specs.declared.Value.{Value as Read}
use Rattle.tree.specs.declared.Value.TheVariants as read
use Rattle.tree.specs.Room.{slot_at}
use Rattle.tree.specs.Order.{key_of}
use Rattle.tree.specs.Doors.{value_at}
use Rattle.agree.specs.Steps.{Agree}
use Rattle.agree.specs.Reads.{Place}
use Rattle.agree.specs.Rooms.{Carried}

-- what a door says of a value, of a string by where its bytes lie, of an array or a table by its place
abbrev pub value_for : ℕ → ℕ → Option Value → Read
value_for from place none = read.Absent
value_for from place (some (str s)) = read.Text from (length s)
value_for from place (some (int (pos n))) = read.Number false n
value_for from place (some (int (negsuc n))) = read.Number true (suc n)
value_for from place (some (boolean b)) = read.Flag b
value_for from place (some (array a)) = read.Array place
value_for from place (some (table t)) = read.Table place

-- a string's bytes lie there
abbrev pub Spelt : List ℕ → ℕ → Option Value → Type 0
Spelt store from none = Unit
Spelt store from (some (str s)) = (from + length s ≤ length store) × (part from (from + length s) store ≡ s)
Spelt store from (some (int i)) = Unit
Spelt store from (some (boolean b)) = Unit
Spelt store from (some (array a)) = Unit
Spelt store from (some (table t)) = Unit

-- the place stands for the value, where there is one
abbrev pub Standing : List ℕ → List Slot → Value → ℕ → Option Value → Type 0
Standing bytes vs x place none = Unit
Standing bytes vs x place (some v) = Place bytes vs x place v

-- a door says this of what the tree has
pub record Sees (store bytes : List ℕ) (vs : List Slot) (x : Value) (o : Option Value) (v : Read) : Type 0 where
  pub from : ℕ
  pub place : ℕ
  pub is : v ≡ value_for from place o
  pub spelt : Spelt store from o
  pub stands : Standing bytes vs x place o
  pub low : place < 65002

-- the rooms that a reader left carry the tree x in the values made
pub record Told (room store bytes : List ℕ) (vs : List Slot) (x : Value) (made : ℕ) : Type 0 where
  pub carried : Carried room store bytes vs
  pub agree : Agree bytes vs x
  pub small : length bytes < 65536
  pub all : made ≡ length vs
  pub few : made ≤ 65000

-- value number n shows an entry of a table: its key, which lies in the store, and its value
pub record Row-seen (room store bytes : List ℕ) (vs : List Slot) (x : Value) (made n : ℕ) (r : Row) : Type 0 where
  pub below : n < made
  pub key : key_of store (slot_at room n) ≡ r.key
  pub fits : (slot_at room n).key + (slot_at room n).len ≤ length store
  pub stands : Place bytes vs x (n + 2) r.value
  pub sees : Sees store bytes vs x (some r.value) (value_at room store n)
