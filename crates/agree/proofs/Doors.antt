-- The reading doors show the tree of 01: what they say of a place that stands for a value, of a table's fields, an array's items and a walk by key.
use Rattle.std.specs.Prelude.{ℕ, zero, suc, ◌+◌, ◌%◌, ◌/◌, ◌≤◌, ◌<◌, List, [], ◌∷◌, Bool, ◌≡◌, ℤ, length, Option as Maybe, Some, None}
use Rattle.std.proofs.Math.Bool.{true, false}
use Rattle.std.proofs.Math.Option.{Option, none, some}
use Rattle.std.proofs.Math.Path.{refl}
use Rattle.std.proofs.Common.{sym, ap, subst, ◌∙◌, arith, length-append}
use Rattle.std.proofs.Math.Dec.{eqb-suc-zero}
use borrow.Author.Tests.{le-leb}
use Rattle.meaning.specs.Base.{pick, part}
use Rattle.meaning.specs.Integers.{number_of}
use Rattle.meaning.specs.Tree.{Value, Items, Table, str, int, boolean, array, table, none', item, empty, entry, lookup, count as many}
use Rattle.meaning.specs.Order.{sorted}
use Rattle.meaning.specs.Fields.{values, Row, rows}
use Rattle.tree.specs.declared.Slot.{Slot}
use Rattle.tree.specs.declared.Value.TheVariants as read
use Rattle.tree.specs.Room.{slot_at, look, child}
use Rattle.tree.specs.Order.{next}
use Rattle.tree.specs.Doors.{nonzero, text_of, value_of, value_at, fields_of, no_fields, among, value_found, field, items}
use Rattle.tree.specs.Spans.{among_look, items_next, items_none}
use Rattle.values.specs.Grow.{look_s}
use Rattle.values.specs.Fill.{truth}
use Rattle.agree.specs.Log.{count}
use Rattle.agree.specs.Finds.{nth}
use Rattle.agree.specs.Meets.{Shows, slot_of}
use Rattle.agree.specs.Slots.{log_of}
use Rattle.agree.proofs.Steps.{to_low}
use Rattle.agree.specs.Reads.{Place, next_s}
use Rattle.agree.proofs.Placing.{place_shows, place_key, place_no_key, place_item, place_no_item}
use Rattle.agree.specs.Order.{step_s, Entry}
use Rattle.agree.proofs.Order.{Walks, walk_sorted}
use Rattle.agree.proofs.Rooms.{room_next, room_look, room_key, room_key_in, room_next_key, string_is, string_long, string_in}
use Rattle.agree.proofs.Store.{part_more}
use Rattle.agree.specs.Doors.{Row-seen, Sees, Spelt, Told, value_for}

-- these values, one for one: each number is made, stands for its value and is seen as it
module _ (room store bytes : List ℕ) (vs : List Slot) (x : Value) (made : ℕ) where
  abbrev pub All-see : List Value → List ℕ → Type 0
  All-see [] [] = Unit
  All-see [] (n ∷ ns) = ⊥
  All-see (v ∷ ws) [] = ⊥
  All-see (v ∷ ws) (n ∷ ns) = (n < made) × Place bytes vs x (n + 2) v × Sees store bytes vs x (some v) (value_at room store n) × All-see ws ns

  pub all_length : (ws : List Value) (ns : List ℕ) → All-see ws ns → length ns ≡ length ws
  all_length [] [] a = refl
  all_length [] (n ∷ ns) a = absurd a
  all_length (v ∷ ws) [] a = absurd a
  all_length (v ∷ ws) (n ∷ ns) a = ap suc (all_length ws ns a.3)

-- steps by key under the place p, from the value found before, meet these entries, and then nothing
module _ (room store bytes : List ℕ) (vs : List Slot) (x : Value) (made p : ℕ) where
  abbrev pub Rows-see : Maybe ℕ → List Row → Type 0
  Rows-see after [] = next (slot_at room) store made p after ≡ None
  Rows-see after (r ∷ rest) = (n : ℕ) × (next (slot_at room) store made p after ≡ Some n) × Row-seen room store bytes vs x made n r × Rows-see (Some n) rest

-- ---- a value

-- a minus before 0 says nothing
minus : (d from place : ℕ) → read.Number (nonzero d) d ≡ value_for from place (some (int (number_of true d)))
minus zero from place = refl
minus (suc n) from place = rw (eqb-suc-zero n)

flag : (b : Bool) → nonzero (truth b) ≡ b
flag true = refl
flag false = refl

module _ (s : Slot) (size : ℕ) where
  says_text : (place long : ℕ) → s.kind ≡ 1 → s.«data» / 65536 ≡ long → s.«data» ≤ 4294967295 → s.«data» % 65536 + s.«data» / 65536 ≤ size
      → value_of s size place ≡ read.Text (s.«data» % 65536) long
  unfolding value_of text_of
  says_text place long k e b l = rw (k, le-leb s.«data» 4294967295 b, le-leb (s.«data» % 65536 + s.«data» / 65536) size l, e)

  says_int : (from place : ℕ) (i : ℤ) (neg : Bool) → s.kind ≡ pick neg 6 2 → i ≡ number_of neg s.«data»
      → value_of s size place ≡ value_for from place (some (int i))
  unfolding value_of
  says_int from place i true k e = rw (k, e) (minus s.«data» from place)
  says_int from place i false k e = rw (k, e)

  says_flag : (place : ℕ) (b : Bool) → s.kind ≡ 3 → s.«data» ≡ truth b → value_of s size place ≡ read.Flag b
  unfolding value_of
  says_flag place b k e = rw (k, e) (ap read.Flag (flag b))

  says_array : (place : ℕ) → s.kind ≡ 4 → value_of s size place ≡ read.Array place
  unfolding value_of
  says_array place k = rw k

  says_table : (place : ℕ) → s.kind ≡ 5 → value_of s size place ≡ read.Table place
  unfolding value_of
  says_table place k = rw k

module _ (room store bytes : List ℕ) (vs : List Slot) (x : Value) (made : ℕ) (h : Told room store bytes vs x made) where
  store_long : length bytes ≤ length store
  store_long = omega (arith, ap length h.carried.is, length-append bytes h.carried.rest)

  -- what stands for a value is made
  pub place_made : (n : ℕ) (v : Value) → Place bytes vs x (n + 2) v → n < made
  place_made n v p = omega (arith, to_low bytes vs p.path, p.leads, h.all)

  pub place_slot : (n : ℕ) (v : Value) → Place bytes vs x (n + 2) v → Shows bytes (slot_at room n) v
  place_slot n v p =
      let e : n + 2 ≡ suc (suc n) = omega arith in
      let l : n < length vs = omega (arith, place_made n v p, h.all) in
      subst (λ (s : Slot). Shows bytes s v) (ap (slot_of (log_of vs)) e ∙ sym (h.carried.each n l)) (place_shows bytes vs x h.agree (n + 2) v p)

  module _ (n : ℕ) where
    sees_as : (v : Value) (from : ℕ) → value_at room store n ≡ value_for from (n + 2) (some v) → Spelt store from (some v) → Place bytes vs x (n + 2) v
        → Sees store bytes vs x (some v) (value_at room store n)
    sees_as v from e d p = record { from = from; place = n + 2; is = e; spelt = d; stands = p; low = omega (arith, place_made n v p, h.few) }

    -- by kind of value
    sees_by : (v : Value) → Shows bytes (slot_at room n) v → Place bytes vs x (n + 2) v → Sees store bytes vs x (some v) (value_at room store n)
    sees_by (str s) w p =
        let d : ℕ = (slot_at room n).«data» in
        let long : d / 65536 ≡ length s = string_long bytes d s w.1 h.small in
        let ends : d % 65536 + d / 65536 ≤ length bytes = string_in bytes d s w.1 h.small in
        let fits : d % 65536 + d / 65536 ≤ length store = omega (arith, store_long) in
        let short : d ≤ 4294967295 = omega (arith, h.small) in
        let there : part (d % 65536) (d % 65536 + d / 65536) store ≡ s =
        ap (part (d % 65536) (d % 65536 + d / 65536)) h.carried.is ∙ part_more bytes h.carried.rest (d % 65536) (d / 65536) ends
        ∙ string_is bytes d s w.1 h.small in
        sees_as (str s) (d % 65536) (says_text (slot_at room n) (length store) (n + 2) (length s) w.0 long short fits) (omega arith, rw long at there) p
    sees_by (int i) w p = sees_as (int i) 0 (says_int (slot_at room n) (length store) 0 (n + 2) i w.0 w.1 w.2) tt p
    sees_by (boolean b) w p = sees_as (boolean b) 0 (says_flag (slot_at room n) (length store) (n + 2) b w.0 w.1) tt p
    sees_by (array a) w p = sees_as (array a) 0 (says_array (slot_at room n) (length store) (n + 2) w) tt p
    sees_by (table t) w p = sees_as (table t) 0 (says_table (slot_at room n) (length store) (n + 2) w) tt p

  -- the value that stands for v is seen as v
  pub place_sees : (n : ℕ) (v : Value) → Place bytes vs x (n + 2) v → Sees store bytes vs x (some v) (value_at room store n)
  place_sees n v p = sees_by n v (place_slot n v p) p

  -- ---- a table's fields

  sees_none : Sees store bytes vs x none read.Absent
  sees_none = record { from = 0; place = 0; is = refl; spelt = tt; stands = tt; low = omega arith }

  module _ (p : ℕ) (t : Table) (g : Place bytes vs x p (table t)) (k : List ℕ) where
    among_is : among room store (fields_of room made p) k ≡ look_s bytes 0 vs p k None
    among_is =
        among_look room store made p k ∙ ap (λ (m : ℕ). look room store m p k) h.all
        ∙ room_look room store bytes vs h.carried h.agree.within p k

    field_by : (o : Option Value) → lookup t k ≡ o → Sees store bytes vs x o (value_found room store (among room store (fields_of room made p) k))
    field_by none d = rw (among_is ∙ place_no_key bytes vs x h.agree p t g k d) sees_none
    field_by (some v) d =
        let f = place_key bytes vs x h.agree p t g k v d in
        rw (among_is ∙ f.1) (place_sees f.0 v f.2)

    -- a field is seen as the table's value of the key
    pub field_sees : Sees store bytes vs x (lookup t k) (field room store (fields_of room made p) k)
    unfolding field
    field_sees = field_by (lookup t k) refl

  -- where there is no table no field is seen
  pub no_field_sees : (k : List ℕ) → Sees store bytes vs x none (field room store no_fields k)
  unfolding field among
  no_field_sees k = sees_none

  -- ---- an array's items

  module _ (p : ℕ) (is : Items) (g : Place bytes vs x p (array is)) where
    child_is : (from : ℕ) → from ≤ length vs → child room made p from ≡ next_s vs p from
    child_is from l = ap (λ (m : ℕ). child room m p from) h.all ∙ room_next room store bytes vs h.carried p from l

    -- from a number with i items below it on, the others are met
    others_see : (rest : Items) (i from : ℕ) → ((j : ℕ) → nth is (i + j) ≡ nth rest j) → many is ≡ i + many rest → from ≤ length vs → count (log_of vs) from p ≡ i
        → All-see room store bytes vs x made (values rest) (items room made p from)
    others_see none' i from e c l d =
        rw (items_none room made p from (child_is from l ∙ place_no_item bytes vs x h.agree p is g from i d l (omega arith))) tt
    others_see (item v rest) i from e c l d =
        let z : i + 0 ≡ i = omega arith in
        let f = place_item bytes vs x h.agree p is g from i d l v (ap (nth is) (sym z) ∙ e 0) in
        let n : ℕ = f.0 in
        let b : n < made = place_made n v f.5 in
        rw (items_next room made p from n (child_is from l ∙ f.1)) (
          b,
          f.5,
          place_sees n v f.5,
          others_see rest (i + 1) (n + 1) (λ j. let y : i + 1 + j ≡ i + suc j = omega arith in ap (nth is) y ∙ e (suc j)) (omega arith) (omega (arith, f.3)) f.4,
        )

    -- the items that the walk meets are the array's
    pub items_see : All-see room store bytes vs x made (values is) (items room made p 0)
    items_see = others_see is 0 0 (λ j. let z : 0 + j ≡ j = omega arith in ap (nth is) z) (omega arith) (omega arith) refl

    -- and as many
    pub items_long : length (items room made p 0) ≡ length (values is)
    items_long = all_length room store bytes vs x made (values is) (items room made p 0) items_see

  -- ---- a walk by key

  module _ (p : ℕ) (t : Table) (g : Place bytes vs x p (table t)) where
    next_is : (after : Maybe ℕ) → next (slot_at room) store made p after ≡ step_s bytes vs p after
    next_is after =
        ap (λ (m : ℕ). next (slot_at room) store m p after) h.all ∙ room_next_key room store bytes vs h.carried h.agree.within p after

    row_seen : (n : ℕ) (k : List ℕ) (v : Value) → Entry bytes vs x g.path n k v → Row-seen room store bytes vs x made n (record { key = k; value = v })
    row_seen n k v e =
        record {
          below = omega (arith, e.below, h.all);
          key = room_key room store bytes vs h.carried h.agree.within n e.below ∙ e.key;
          fits = room_key_in room store bytes vs h.carried h.agree.within n e.below;
          stands = e.place;
          sees = place_sees n v e.place;
        }

    walk_sees : (u : Table) (after : Maybe ℕ) → Walks bytes vs x h.agree p t g after u → Rows-see room store bytes vs x made p after (rows u)
    walk_sees empty after w = next_is after ∙ w
    walk_sees (entry k v u) after w = (w.0, next_is after ∙ w.1, row_seen w.0 k v w.2, walk_sees u (Some w.0) w.3)

    -- the walk from nothing meets the table's entries in byte order of key
    pub rows_see : Rows-see room store bytes vs x made p None (rows (sorted t))
    rows_see = walk_sees (sorted t) None (walk_sorted bytes vs x h.agree p t g)
