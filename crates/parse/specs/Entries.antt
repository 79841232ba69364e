-- Level 2 of the lists: where a list stands, an entry by the number of its value, and all entries in their order.
use Rattle.std.specs.Prelude.{ℕ, zero, suc, ◌+◌, ◌-◌, ◌≤◌, false, List as Seq, [], ◌∷◌, ◌++◌, ◌≡◌, eqb, length, replicate, Option, Some, None, unwrap_or}
use Rattle.meaning.specs.Base.{pick, ascii}
use Rattle.meaning.specs.Refusal.{R, ok, bad, Answer, accepted, refused, number_of, in_partition, in_component, in_application}
use Rattle.meaning.specs.Fields.{each, listed}
use Rattle.tree.specs.declared.Value.{Value}
use Rattle.tree.specs.declared.Value.TheVariants as values
use Rattle.tree.specs.declared.Fields.{Fields}
use Rattle.tree.specs.Room.{slot_at}
use Rattle.tree.specs.Order.{next}
use Rattle.tree.specs.Doors.{Rooms, field, fields_of, value_at, items, nth_of}
use Rattle.schema.specs.declared.Text.TheVariants as texts
use Rattle.schema.specs.declared.Partition.{Partition}
use Rattle.schema.specs.declared.Component.{Component}
use Rattle.schema.specs.declared.Application.{Application}
use Rattle.schema.specs.Texts.{start_of, length_of}
use Rattle.parse.specs.declared.Refusal.{Refusal}
use Rattle.parse.specs.declared.front.TableRead.{TableRead}
use Rattle.parse.specs.declared.entry.List.{List}
use Rattle.parse.specs.declared.entry.Entry.{Entry}
use Rattle.parse.specs.declared.entry.PartitionRead.{PartitionRead}
use Rattle.parse.specs.declared.entry.Partitions.{Partitions}
use Rattle.parse.specs.declared.component.ComponentRead.{ComponentRead}
use Rattle.parse.specs.declared.application.ApplicationRead.{ApplicationRead}
use Rattle.parse.specs.Refusals.{refusal, earlier}
use Rattle.parse.specs.Fields.{first_fault, text_needed, number_needed, flag_at}
use Rattle.parse.specs.Front.{no_table}
use Rattle.parse.specs.Component.{component_read}
use Rattle.parse.specs.Application.{application_read}

-- ---- where a list stands

abbrev pub no_list : ℕ → List
no_list n = record { fault = n; place = 0; end = 0 }

abbrev pub list_of : ℕ → Value → List
list_of made values.Absent = no_list 0
list_of made (values.Text from len) = no_list 20
list_of made (values.Number n m) = no_list 20
list_of made (values.Flag b) = no_list 20
list_of made (values.Array p) = record { fault = 0; place = p; end = made }
list_of made (values.Table p) = no_list 20

-- the other where the first is absent
abbrev pub or_other : Value → Value → Value
or_other values.Absent w = w
or_other (values.Text from len) w = values.Text from len
or_other (values.Number n m) w = values.Number n m
or_other (values.Flag b) w = values.Flag b
or_other (values.Array p) w = values.Array p
or_other (values.Table p) w = values.Table p

abbrev pub list_at : Seq ℕ → Seq ℕ → ℕ → Fields → Seq ℕ → Seq ℕ → List
list_at room store made root one many = list_of made (or_other (field room store root one) (field room store root many))

abbrev pub keys_of : ℕ → Value → List
keys_of made values.Absent = no_list 0
keys_of made (values.Text from len) = no_list 20
keys_of made (values.Number n m) = no_list 20
keys_of made (values.Flag b) = no_list 20
keys_of made (values.Array p) = no_list 20
keys_of made (values.Table p) = record { fault = 0; place = p; end = made }

abbrev pub keys_at : Seq ℕ → Seq ℕ → ℕ → Fields → List
keys_at room store made root = keys_of made (field room store root (ascii "apps"))

-- its entries stand among the values made
pub record Among (room : Seq ℕ) (made : ℕ) (l : List) : Type 0 where
  pub rooms : Rooms room made
  pub end : l.end ≤ made

-- and are not more than an array takes
pub record Few (room : Seq ℕ) (made place end : ℕ) : Type 0 where
  pub rooms : Rooms room made
  pub within : end ≤ made
  pub few : length (items room end place 0) ≤ 32

-- ---- an entry

abbrev pub entry_table : Seq ℕ → ℕ → Value → TableRead
entry_table room made values.Absent = no_table 23
entry_table room made (values.Text from len) = no_table 23
entry_table room made (values.Number n m) = no_table 23
entry_table room made (values.Flag b) = no_table 23
entry_table room made (values.Array p) = no_table 23
entry_table room made (values.Table p) = record { fault = 0; fields = fields_of room made p }

-- what a reader with a fault says
abbrev pub as_r : {X : Type 0} → ℕ → X → R X
as_r fault x = pick (eqb fault 0) (ok x) (bad fault)

-- a refusal, 0 for none
abbrev pub refusal_at : ℕ → ℕ → ℕ → Refusal
refusal_at section number place = refusal number section place

abbrev pub refusal_of : {X : Type 0} → Answer X → Refusal
refusal_of (accepted x) = refusal_at 0 0 0
refusal_of (refused f section place) = refusal_at section (number_of f) place

module _ (room store : Seq ℕ) where
  unfoldable pub partition_read : Fields → PartitionRead
  partition_read f =
      let name = text_needed room store f (ascii "name") in
      let offset = number_needed room store f (ascii "offset") in
      let size = number_needed room store f (ascii "size") in
      let locked = flag_at room store f (ascii "locked") in
      record {
        fault = first_fault name.fault (first_fault offset.fault (first_fault size.fault locked.fault));
        partition = record {
          from = start_of name.text;
          len = length_of name.text;
          offset = unwrap_or offset.number 0;
          size = unwrap_or size.number 0;
          locked = locked.flag;
        };
      }

  module _ (made : ℕ) where
    -- the table of value number n
    abbrev pub table_at : ℕ → TableRead
    table_at n = entry_table room made (value_at room store n)

    unfoldable pub partition_at : ℕ → PartitionRead
    partition_at n =
        record { fault = first_fault (table_at n).fault (partition_read (table_at n).fields).fault; partition = (partition_read (table_at n).fields).partition }

    unfoldable pub component_at : ℕ → ℕ → ComponentRead
    component_at n limit =
        let c = component_read room store made (table_at n).fields limit in
        record { fault = first_fault (table_at n).fault c.fault; component = c.component }

    unfoldable pub application_at : ℕ → ℕ → ApplicationRead
    application_at n limit =
        let v = slot_at room n in
        let a = application_read room store made (table_at n).fields (texts.Stored v.key v.len) limit in
        record { fault = first_fault (table_at n).fault a.fault; application = a.application }

    -- ---- all entries

    abbrev pub partition_r : ℕ → R Partition
    partition_r n = as_r (partition_at n).fault (partition_at n).partition

    abbrev pub component_r : ℕ → ℕ → R Component
    component_r limit n = as_r (component_at n limit).fault (component_at n limit).component

    abbrev pub application_r : ℕ → ℕ → R Application
    application_r limit n = as_r (application_at n limit).fault (application_at n limit).application

    abbrev pub each_partition : ℕ → ℕ → Answer (Seq Partition)
    each_partition place end = each partition_r in_partition 0 (items room end place 0)

    abbrev pub partitions : List → ℕ → Answer (Seq Partition)
    partitions l limit = listed partition_r in_partition limit (items room l.end l.place 0)

    abbrev pub each_component : ℕ → ℕ → ℕ → Refusal
    each_component place end limit = refusal_of (each (component_r limit) in_component 0 (items room end place 0))

    abbrev pub components : List → ℕ → ℕ → Refusal
    components l most limit = refusal_of (listed (component_r limit) in_component most (items room l.end l.place 0))

  -- a number found, and the numbers after it
  abbrev pub onward : Option ℕ → (Option ℕ → Seq ℕ) → Seq ℕ
  onward None rest = []
  onward (Some n) rest = n ∷ rest (Some n)

  -- the numbers that a walk in byte order of key meets after a value, at most k of them
  abbrev pub walk : ℕ → ℕ → ℕ → Option ℕ → Seq ℕ
  walk end place zero after = []
  walk end place (suc k) after = onward (next (slot_at room) store end place after) (walk end place k)

  abbrev pub nth_key : List → ℕ → Option ℕ
  nth_key l i = nth_of (walk l.end l.place (i + 1) None) i

  module _ (made : ℕ) where
    -- what the application that value number n is says at place i
    abbrev pub application_fault : ℕ → ℕ → ℕ → Refusal
    application_fault limit i n =
        pick (eqb (application_at made n limit).fault 0) (refusal_at 0 0 0) (refusal_at in_application (application_at made n limit).fault i)

    -- the refusal so far; where there is none, an entry's
    abbrev pub earlier_fault : ℕ → Entry → Refusal → Refusal
    earlier_fault limit e fault = earlier fault (application_fault limit e.place e.value)

    abbrev pub applications : List → ℕ → ℕ → Refusal
    applications l most limit = refusal_of (listed (application_r made limit) in_application most (walk l.end l.place (most + 1) None))

-- how many keys there are, as far as the limit and one more
pub record Keyed (room store : Seq ℕ) (l : List) (most n : ℕ) : Type 0 where
  pub is : n ≡ length (walk room store l.end l.place (most + 1) None)
  pub fits : n ≤ most + 1

-- ---- partitions by value

abbrev pub blank : Partition
blank = record { from = 0; len = 0; offset = 0; size = 0; locked = false }

-- a refusal, and no partition
abbrev pub NoPartitions : Refusal → Partitions → Type 0
NoPartitions f r = (r.fault ≡ f) × (r.count ≡ 0) × (r.items ≡ replicate 32 blank)

abbrev pub Partitioned : Answer (Seq Partition) → Partitions → Type 0
Partitioned (accepted ps) r = (r.fault ≡ refusal_at 0 0 0) × (r.count ≡ length ps) × (length ps ≤ 32) × (r.items ≡ ps ++ replicate (32 - length ps) blank)
Partitioned (refused f section place) r = NoPartitions (refusal_at section (number_of f) place) r
