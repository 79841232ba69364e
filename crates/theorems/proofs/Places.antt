-- A feature list that stands in the rooms is handed out whole: where it is an array, its place is a number of two bytes.
use Prim.Native.Nat.{ℕ, zero, suc, ◌+◌, ◌-◌, ◌/◌, ◌%◌, ◌≤◌, ◌<◌}
use mathlib.Core.Bool.{true, false}
use mathlib.Core.List.{List}
use mathlib.Core.Path.{◌≡◌, refl}
use native.Mathlib.Omega.{arith}
use borrow.Author.Tests.{ltb-false}
use lib.Dec.{eqb, ltb, leb}
use lib.ListN.{length}
use Rattle.meaning.specs.Base.{ascii, nil?}
use Rattle.laws.specs.Cases.{on, picked, never}
use Rattle.tree.specs.declared.Slot.{Slot}
use Rattle.std.specs.Prelude.{Option, Some, None}
use Rattle.tree.specs.declared.Value.{Value}
use Rattle.tree.specs.declared.Value.TheVariants as values
use Rattle.tree.specs.declared.Fields.{Fields}
use Rattle.tree.specs.Room.{slot_at, under, mine}
use Rattle.tree.specs.Doors.{text_of, value_of, value_at, newest, fields_of, look_in, among, value_found, field, items}
use Rattle.schema.specs.declared.Component.{Component}
use Rattle.features.specs.Pieces.{words_from, all_texts, pieces, features_read}
use Rattle.parse.specs.Component as component
use Rattle.parse.specs.Application as application
use Rattle.parse.specs.Entries.{entry_table, table_at, component_at, application_at}
use Rattle.parse.specs.Views.{holds_values}
use Rattle.theorems.proofs.Decoding.{Low}

-- ---- values

-- an array's place is a number of two bytes
abbrev LowValue : Value → Type 0
LowValue values.Absent = Unit {0}
LowValue (values.Text from len) = Unit {0}
LowValue (values.Number b n) = Unit {0}
LowValue (values.Flag b) = Unit {0}
LowValue (values.Array place) = place < 65536
LowValue (values.Table place) = Unit {0}

low_text : (bits size : ℕ) → LowValue (text_of bits size)
unfolding text_of
low_text bits size =
    picked LowValue (leb bits 4294967295) (λ p. picked LowValue (leb (bits % 65536 + bits / 65536) size) (λ q. tt) (λ q. tt)) (λ p. tt)

low_value : (v : Slot) (size place : ℕ) → place < 65536 → LowValue (value_of v size place)
unfolding value_of
low_value v size place h =
    picked LowValue (eqb v.kind 1) (λ a. low_text v.«data» size)
    (λ a. picked LowValue (eqb v.kind 2) (λ b. tt)
    (λ b. picked LowValue (eqb v.kind 3) (λ c. tt)
    (λ c. picked LowValue (eqb v.kind 4) (λ d. h)
    (λ d. picked LowValue (eqb v.kind 5) (λ e. tt)
    (λ e. picked LowValue (eqb v.kind 6) (λ f. tt) (λ f. tt))))))

-- ---- numbers of values

abbrev Below : ℕ → Option ℕ → Type 0
Below end (Some n) = n < end
Below end None = Unit {0}

module _ (room store : List ℕ) where
  look_below : (from end parent : ℕ) (key : List ℕ) (k : ℕ) → k ≤ end - from → Below end (look_in room store from k parent key)
  look_below from end parent key zero h = tt
  look_below from end parent key (suc k) h =
      picked (Below end) (mine room store (from + k) parent key) (λ e. omega (arith, h)) (λ e. look_below from end parent key k (omega (arith, h)))

  newest_most : (made parent : ℕ) → newest room made parent ≤ made
  newest_most zero parent = omega arith
  newest_most (suc n) parent = picked (λ (x : ℕ). x ≤ suc n) (under room n parent) (λ e. omega arith) (λ e. omega (arith, newest_most n parent))

  low_found : (end : ℕ) → end ≤ 65000 → (r : Option ℕ) → Below end r → LowValue (value_found room store r)
  low_found end h (Some n) b = low_value (slot_at room n) (length store) (n + 2) (omega (arith, h, b))
  low_found end h None b = tt

  field_low : (f : Fields) (key : List ℕ) → f.to ≤ 65000 → LowValue (field room store f key)
  unfolding field among
  field_low f key h =
      low_found f.to h (look_in room store f.from (f.to - f.from) f.place key)
      (look_below f.from f.to f.place key (f.to - f.from) (omega arith))

  entry_most : (made : ℕ) (v : Value) → (entry_table room made v).fields.to ≤ made
  unfolding fields_of
  entry_most made values.Absent = omega arith
  entry_most made (values.Text from len) = omega arith
  entry_most made (values.Number b n) = omega arith
  entry_most made (values.Flag b) = omega arith
  entry_most made (values.Array place) = omega arith
  entry_most made (values.Table place) = newest_most made place

  -- ---- feature lists

  read_low : (made limit : ℕ) (v : Value) → LowValue v → Low (features_read room store made limit v).features
  unfolding features_read
  read_low made limit values.Absent h = tt
  read_low made limit (values.Text from len) h = on (ltb limit (length (words_from store from len 0))) (λ e. rw e tt) (λ e. rw e tt)
  read_low made limit (values.Number b n) h = tt
  read_low made limit (values.Flag b) h = tt
  read_low made limit (values.Array place) h =
      let ns = items room made place 0 in
      on (ltb limit (length ns)) (λ e. rw e tt) (λ e. on (all_texts room store ns) (λ f. rw (e, f) h) (λ f. rw (e, f) tt))
  read_low made limit (values.Table place) h = tt

-- no more values are made than places of two bytes can tell
held_few : (room : List ℕ) (made : ℕ) → holds_values room made ≡ true → made ≤ 65000
unfolding holds_values
held_few room made e =
    on (ltb (length room / 32) made)
    (λ f. never {b = false} (rw f at e) refl)
    (λ f. on (ltb 65000 made) (λ g. never {b = false} (rw (f, g) at e) refl) (λ g. ltb-false 65000 made g))

-- ---- records

-- a component's lists
abbrev pub LowIn : Component → Type 0
LowIn c = Low c.role.features × Low c.role.pbp_features

module _ (room store : List ℕ) (made : ℕ) (held : holds_values room made ≡ true) where
  entry_low : (n limit : ℕ) (key : List ℕ) → Low (features_read room store made limit (field room store (table_at room store made n).fields key)).features
  entry_low n limit key =
      let f = (table_at room store made n).fields in
      read_low room store made limit (field room store f key)
      (field_low room store f key (omega (arith, held_few room made held, entry_most room store made (value_at room store n))))

  pub component_low : (n limit : ℕ) → LowIn (component_at room store made n limit).component
  unfolding component_at component.component_read component.role_read component.lists
  component_low n limit =
      let all = entry_low n limit (ascii "features") in
      let own = entry_low n limit (ascii "pbp_features") in
      let f = (table_at room store made n).fields in
      (all, picked Low (nil? (pieces room store made (features_read room store made limit (field room store f (ascii "pbp_features"))).features)) (λ e. all) (λ e. own))

  pub application_low : (n limit : ℕ) → Low (application_at room store made n limit).application.features
  unfolding application_at application.application_read application.loading
  application_low n limit = entry_low n limit (ascii "features")
