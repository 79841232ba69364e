-- 01, "From tree to records": a field of a table, read in one way for each kind of value; and the entries of a list.
-- Refusals 20, 21, 23, 24, 25.
use Rattle.std.specs.Prelude.{ℕ, ◌+◌, Bool, List, [], ◌∷◌, leb, ltb, ℤ, pos, negsuc, length}
use Rattle.std.proofs.Math.Option.{Option, none, some}
use Rattle.meaning.specs.Base.{pick, or_default}
use Rattle.meaning.specs.Refusal.{R, ok, bad, ok_then, Answer, accepted, refused, accepted_then, told, numbered}
use Rattle.meaning.specs.Tree.{Value, Items, Table, none', item, empty, entry, as_string, as_int, as_bool, as_array}
use Rattle.meaning.specs.Tree.{as_table, lookup}

-- ---- a value of a kind

-- what is there; else refused by number n
abbrev pub need : {X : Type 0} → ℕ → Option X → R X
need n none = bad n
need n (some x) = ok x

-- 20: "field, or feature item, of the wrong kind"; a text, a flag, an array, a table
unfoldable pub a_text : Value → R (List ℕ)
a_text v = need 20 (as_string v)

unfoldable pub a_flag : Value → R Bool
a_flag v = need 20 (as_bool v)

unfoldable pub an_array : Value → R Items
an_array v = need 20 (as_array v)

unfoldable pub a_table : Value → R Table
a_table v = need 20 (as_table v)

-- 21: "integer outside 0 to 4,294,967,295"
unfoldable pub in_range : ℤ → R ℕ
in_range (pos n) = pick (leb n 4294967295) (ok n) (bad 21)
in_range (negsuc n) = bad 21

-- an integer of the right kind, then in its range
unfoldable pub a_number : Value → R ℕ
a_number v = ok_then (need 20 (as_int v)) in_range

-- a text, then one of some words: 20 before 22
abbrev pub a_word : {X : Type 0} → (List ℕ → R X) → Value → R X
a_word of v = ok_then (a_text v) of

-- ---- a field

-- a value read in one way; none where there is none
abbrev pub present : {X : Type 0} → (Value → R X) → Option Value → R (Option X)
present way none = ok none
present way (some v) = ok_then (way v) (λ x. ok (some x))

-- the field k of a table, read in one way; none where it is absent. Every field is read by this
unfoldable pub field : {X : Type 0} → (Value → R X) → Table → List ℕ → R (Option X)
field way t k = present way (lookup t k)

-- "Defaults are the source's."
abbrev pub defaulted : {X : Type 0} → (Value → R X) → X → Table → List ℕ → R X
defaulted way d t k = ok_then (field way t k) (λ o. ok (or_default o d))

-- 24: "missing `name`, `offset` or `size`". "A missing field is told at its turn."
abbrev pub required : {X : Type 0} → (Value → R X) → Table → List ℕ → R X
required way t k = ok_then (field way t k) (need 24)

-- ---- tables and lists at the root

-- a table at the root, which has no fields where it is absent
unfoldable pub table_at : Table → List ℕ → R Table
table_at root k = defaulted a_table empty root k

-- an array's items, in its order
abbrev pub values : Items → List Value
values none' = []
values (item v is) = v ∷ values is

-- an entry of a table: its key and its value
pub record Row : Type 0 where
  pub key : List ℕ
  pub value : Value

-- a table's entries, in its order
abbrev pub rows : Table → List Row
rows empty = []
rows (entry k v t) = record { key = k; value = v } ∷ rows t

-- what is there, or the other
abbrev pub or_then : {X : Type 0} → R (Option X) → Option X → R (Option X)
or_then r none = r
or_then r (some x) = ok (some x)

-- "`partitions` and `components` are taken only where the singular is absent."
unfoldable pub list_at : Table → List ℕ → List ℕ → R (List Value)
list_at root one many =
    ok_then (field an_array root one) (λ single.
    ok_then (or_then (field an_array root many) single) (λ found.
    ok (values (or_default found none'))))

-- ---- entries

-- 23: "list entry or application not a table"
unfoldable pub tabled : {X : Type 0} → (Table → R X) → Value → R X
tabled read v = ok_then (need 23 (as_table v)) read

-- one entry after the other, the first of which is entry n; a refusal is told at its entry
abbrev pub each : {A X : Type 0} → (A → R X) → ℕ → ℕ → List A → Answer (List X)
each read section n [] = accepted []
each read section n (a ∷ rest) =
    accepted_then (told section n (read a)) (λ x.
    accepted_then (each read section (n + 1) rest) (λ xs. accepted (x ∷ xs)))

-- 25: "list too long (place: first entry over ..)". "List length is checked before entries."
unfoldable pub listed : {A X : Type 0} → (A → R X) → ℕ → ℕ → List A → Answer (List X)
listed read section limit all =
    pick (ltb limit (length all)) (refused (numbered 25) section limit) (each read section 0 all)

-- "or 0 outside an entry": what a reader says of a section
abbrev pub outside : {X : Type 0} → ℕ → R X → Answer X
outside section r = told section 0 r

unfoldable pub computes : Unit {0}
unfolding a_text a_flag an_array a_table in_range a_number field table_at list_at tabled listed
computes = tt
