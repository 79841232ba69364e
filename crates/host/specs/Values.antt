-- What the exports of the layer of values say, in the words of the definitions.
use Rattle.std.specs.Prelude.{ℕ, ◌/◌, false, List, ◌≡◌, eqb, ltb, length, get_or}
use Rattle.meaning.specs.Base.{pick, zeros}
use Rattle.meaning.specs.Refusal.{R, ok, bad, Answer, told, in_text}
use Rattle.meaning.specs.Rooms.{room_after}
use Rattle.meaning.specs.declared.Signed.{Signed}
use Rattle.meaning.specs.declared.StringByte.TheVariants.{Plain}
use Rattle.meaning.specs.Strings.{Ending, closed, escape, unended, decode}
use Rattle.meaning.specs.Keys.{keys}
use Rattle.scalar.specs.Splits.{flat, ends_of}
use Rattle.tree.specs.declared.Slot.{Slot}
use Rattle.tree.specs.Room.{slot_at}
use Rattle.toml_lite.specs.Rooms.{suffice}
use Rattle.host.specs.declared.single_values.Number.{Number}
use Rattle.host.specs.declared.single_values.Spelling.{Spelling}
use Rattle.host.specs.declared.single_values.Value.{Value}
use Rattle.host.specs.declared.single_values.Segments.{Segments}
use Rattle.host.specs.declared.single_values.ValueRead.{ValueRead}
use Rattle.values.specs.Out.{Out, cells}
use Rattle.values.specs.Fill.{value_out}

-- an answer that has no place
abbrev pub unplaced : {X : Type 0} → R X → Answer X
unplaced r = told in_text 0 r

-- 17 where the room is shorter than the text, "a lent room is too small"; then the text's own answer
abbrev pub taking : {X : Type 0} → ℕ → List ℕ → R X → R X
taking room s r = pick (ltb room (length s)) (bad 17) r

-- an integer, or its refusal
abbrev pub number_of : R Signed → Number
number_of (ok x) = record { number = 0; negative = x.neg; magnitude = x.mag }
number_of (bad n) = record { number = n; negative = false; magnitude = 0 }

-- a string's answer, by how it ends
abbrev pub spelling_by : Ending → List ℕ → ℕ → Spelling
spelling_by closed bs k = record { number = 0; used = k; written = length bs; at = 0 }
spelling_by escape bs k = record { number = 8; used = 0; written = 0; at = k }
spelling_by unended bs k = record { number = 9; used = 0; written = 0; at = 0 }

-- its bytes where it ends
abbrev pub ended_as : Ending → List ℕ → R (List ℕ)
ended_as closed bs = ok bs
ended_as escape bs = bad 8
ended_as unended bs = bad 9

-- the room has the string's bytes
pub record Spelled (s room room' : List ℕ) (r : Spelling) : Type 0 where
  pub says : r ≡ pick (ltb (length room) (length s)) (record { number = 17; used = 0; written = 0; at = 0 }) (spelling_by (decode Plain s).how (decode Plain s).bytes (decode Plain s).span)
  pub left : room' ≡ room_after (λ bs. bs) (length room) (unplaced (taking (length room) s (ended_as (decode Plain s).how (decode Plain s).bytes)))

abbrev pub value_of : Slot → Value
value_of v = record { kind = v.kind; parent = v.parent; key = v.key; len = v.len; «data» = v.«data» }

-- value number n, where the room has so many
abbrev pub slot_of : List ℕ → ℕ → Value
slot_of room n = pick (ltb n (length room / 32)) (value_of (slot_at room n)) (record { kind = 0; parent = 0; key = 0; len = 0; «data» = 0 })

-- a key's answer
abbrev pub segments_of : R (List (List ℕ)) → Segments
segments_of (ok ks) = record { number = 0; count = length ks; used = length (flat ks) }
segments_of (bad n) = record { number = n; count = 0; used = 0 }

-- the room has its segments one after the other
pub record Split (s room room' : List ℕ) (r : Segments) : Type 0 where
  pub says : r ≡ segments_of (taking (length room) s (keys 16 s))
  pub left : room' ≡ room_after flat (length room) (unplaced (taking (length room) s (keys 16 s)))

-- where segment i ends
abbrev pub end_of : R (List (List ℕ)) → ℕ → ℕ
end_of (ok ks) i = get_or (ends_of 0 ks) i 0
end_of (bad n) i = 0

-- nothing stays in the room
pub record Ends (s room room' : List ℕ) (i r : ℕ) : Type 0 where
  pub says : r ≡ end_of (taking (length room) s (keys 16 s)) i
  pub left : room' ≡ zeros (length room)

-- 17 where a room is too small, then 1 where the text is too long
unfoldable pub size_fault : List ℕ → List ℕ → List ℕ → ℕ
size_fault s store tree = pick (suffice (length store) (length tree)) (pick (ltb 32768 (length s)) 1 0) 17

-- what a value leaves under 01's limits in empty rooms
abbrev pub out_of : List ℕ → Out
out_of s = value_out 2048 16 0 0 0 s

-- the number of a refusal: that of the sizes, then the value's own; 0 for none
abbrev pub value_fault : List ℕ → List ℕ → List ℕ → ℕ
value_fault s store tree = pick (eqb (size_fault s store tree) 0) (out_of s).fault (size_fault s store tree)

-- what the value leaves, or the refusal
abbrev pub value_in : List ℕ → List ℕ → List ℕ → R Out
value_in s store tree = pick (eqb (value_fault s store tree) 0) (ok (out_of s)) (bad (value_fault s store tree))

abbrev pub value_read : R Out → ValueRead
value_read (ok o) = record { number = 0; used = length o.bytes; made = length o.slots }
value_read (bad n) = record { number = n; used = 0; made = 0 }

pub record Readout (s store tree store' tree' : List ℕ) (r : ValueRead) : Type 0 where
  pub says : r ≡ value_read (value_in s store tree)
  pub store_is : store' ≡ room_after (λ o. o.bytes) (length store) (unplaced (value_in s store tree))
  pub tree_is : tree' ≡ room_after (λ o. cells o.slots) (length tree) (unplaced (value_in s store tree))
