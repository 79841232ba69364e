-- A text that is read is short: it begins below 65,536 and has fewer than 65,536 bytes, whatever stands in the room.
use Rattle.std.specs.Prelude.{ℕ, ◌+◌, ◌/◌, ◌%◌, ◌<◌, List, ◌≡◌, eqb, leb, length, Option, Some, None}
use Rattle.std.proofs.Common.{arith, leb-true}
use Rattle.laws.specs.Cases.{on}
use Rattle.tree.specs.declared.Slot.{Slot}
use Rattle.tree.specs.declared.Value.{Value}
use Rattle.tree.specs.declared.Value.TheVariants.{Absent, Text, Number, Flag, Array, Table}
use Rattle.tree.specs.declared.Fields.{Fields}
use Rattle.tree.specs.Room.{slot_at}
use Rattle.tree.specs.Doors.{text_of, value_of, value_at, among, value_found, field}

-- the value is no text, or a short one
abbrev Short : Value → Type 0
Short Absent = Unit
Short (Text from len) = (from < 65536) × (len < 65536)
Short (Number b n) = Unit
Short (Flag b) = Unit
Short (Array p) = Unit
Short (Table p) = Unit

short_text : (bits size : ℕ) → Short (text_of bits size)
unfolding text_of
short_text bits size =
    on (leb bits 4294967295)
    (λ p.
    on (leb (bits % 65536 + bits / 65536) size)
    (λ q. let l = leb-true bits 4294967295 p in rw (p, q) (omega arith, omega arith))
    (λ q. rw (p, q) tt))
    (λ p. rw p tt)

short_value : (v : Slot) (size place : ℕ) → Short (value_of v size place)
unfolding value_of
short_value v size place =
    on (eqb v.kind 1)
    (λ e. rw e (short_text v.«data» size))
    (λ a.
    on (eqb v.kind 2)
    (λ e. rw (a, e) tt)
    (λ b.
    on (eqb v.kind 3)
    (λ e. rw (a, b, e) tt)
    (λ c.
    on (eqb v.kind 4)
    (λ e. rw (a, b, c, e) tt)
    (λ d.
    on (eqb v.kind 5)
    (λ e. rw (a, b, c, d, e) tt)
    (λ f.
    on (eqb v.kind 6)
    (λ e. rw (a, b, c, d, f, e) tt)
    (λ e. rw (a, b, c, d, f, e) tt))))))

short_found : (room store : List ℕ) (r : Option ℕ) → Short (value_found room store r)
short_found room store (Some n) = short_value (slot_at room n) (length store) (n + 2)
short_found room store None = tt

-- what a value is
pub text_short : (room store : List ℕ) (n from len : ℕ) → value_at room store n ≡ Text from len → (from < 65536) × (len < 65536)
text_short room store n from len e = rw e at (short_value (slot_at room n) (length store) (n + 2))

-- a table's field
pub field_short : (room store : List ℕ) (f : Fields) (key : List ℕ) (from len : ℕ) → field room store f key ≡ Text from len → (from < 65536) × (len < 65536)
unfolding field
field_short room store f key from len e = rw e at (short_found room store (among room store f key))
