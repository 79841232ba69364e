-- How a value of 01 stands in the two rooms: its strings in the store, one after the other, and its slots in the tree room in the order of making.
use Rattle.std.specs.Prelude.{ℕ, zero, suc, ◌+◌, Bool, true, false, List, [], ◌∷◌, ◌++◌, ◌≡◌, refl, eqb, ℤ, pos, negsuc, length, get_or}
use Rattle.std.proofs.Common.{sym, ap, ◌∙◌, eqb-true, length-append}
use Rattle.std.proofs.Math.Dec.{eqb-suc-zero}
use Rattle.meaning.specs.Base.{pick}
use Rattle.meaning.specs.Integers.{number_of}
use Rattle.meaning.specs.Tree.{Value, Items, str, int, boolean, array, table, none', item}
use Rattle.tree.specs.declared.Slot.{Slot}
use Rattle.values.specs.Fill.{valued, string_slot, int_slot, bool_slot, array_slot}
use Rattle.laws.specs.Cases.{on}

-- "decoded into the store as it is read, after those already there": all strings of a value, in reading order
abbrev mutual
  pub spelled : Value → List ℕ
  spelled (str s) = s
  spelled (int i) = []
  spelled (boolean b) = []
  spelled (array is) = spelled_all is
  spelled (table t) = []

  pub spelled_all : Items → List ℕ
  spelled_all none' = []
  spelled_all (item v is) = spelled v ++ spelled_all is

-- "Values made": an array counts, and so does each of its items
abbrev mutual
  pub size : Value → ℕ
  size (str s) = 1
  size (int i) = 1
  size (boolean b) = 1
  size (array is) = suc (sizes is)
  size (table t) = 1

  pub sizes : Items → ℕ
  sizes none' = 0
  sizes (item v is) = size v + sizes is

-- an integer: kind 2 with its magnitude, kind 6 with that of a negative one
abbrev pub whole_slot : ℕ → ℤ → Slot
whole_slot parent (pos n) = valued parent 2 n
whole_slot parent (negsuc n) = valued parent 6 (suc n)

abbrev pub table_slot : ℕ → Slot
table_slot parent = valued parent 5 0

-- the slots of a value under a parent, where used bytes stand in the store and made values are made before it: "each array .. before its items",
-- which hang under its number; a table, which no value read has in it, is made empty
abbrev mutual
  pub layout : ℕ → ℕ → ℕ → Value → List Slot
  layout parent used made (str s) = string_slot parent used (length s) ∷ []
  layout parent used made (int i) = whole_slot parent i ∷ []
  layout parent used made (boolean b) = bool_slot parent b ∷ []
  layout parent used made (array is) = array_slot parent ∷ layouts (made + 2) used (made + 1) is
  layout parent used made (table t) = table_slot parent ∷ []

  pub layouts : ℕ → ℕ → ℕ → Items → List Slot
  layouts parent used made none' = []
  layouts parent used made (item v is) =
      layout parent used made v ++ layouts parent (used + length (spelled v)) (made + size v) is

-- no table is in it
abbrev mutual
  pub Tableless : Value → Type 0
  Tableless (str s) = Unit
  Tableless (int i) = Unit
  Tableless (boolean b) = Unit
  Tableless (array is) = AllTableless is
  Tableless (table t) = ⊥

  pub AllTableless : Items → Type 0
  AllTableless none' = Unit
  AllTableless (item v is) = Tableless v × AllTableless is

mutual
  pub length_layout : (v : Value) (parent used made : ℕ) → length (layout parent used made v) ≡ size v
  length_layout (str s) parent used made = refl
  length_layout (int i) parent used made = refl
  length_layout (boolean b) parent used made = refl
  length_layout (array is) parent used made = ap suc (length_layouts is (made + 2) used (made + 1))
  length_layout (table t) parent used made = refl

  pub length_layouts : (is : Items) (parent used made : ℕ) → length (layouts parent used made is) ≡ sizes is
  length_layouts none' parent used made = refl
  length_layouts (item v is) parent used made =
      length-append (layout parent used made v) (layouts parent (used + length (spelled v)) (made + size v) is)
      ∙ rw (length_layout v parent used made, length_layouts is parent (used + length (spelled v)) (made + size v))

-- `-0` is the integer 0, and 01 has one: a minus before nothing does not count
abbrev pub seen_kind : ℕ → ℕ → ℕ
seen_kind kind bits = pick (eqb kind 6) (pick (eqb bits 0) 2 6) kind

abbrev pub seen : Slot → Slot
seen v = record { kind = seen_kind v.kind v.«data»; parent = v.parent; key = v.key; len = v.len; «data» = v.«data» }

abbrev pub seens : List Slot → List Slot
seens [] = []
seens (v ∷ vs) = seen v ∷ seens vs

-- the integer that a slot of kind 2 or 6 holds
abbrev pub number_at : Slot → ℤ
number_at v = number_of (eqb v.kind 6) v.«data»

pub length_seens : (vs : List Slot) → length (seens vs) ≡ length vs
length_seens [] = refl
length_seens (v ∷ vs) = ap suc (length_seens vs)

pub seens_append : (vs ws : List Slot) → seens (vs ++ ws) ≡ seens vs ++ seens ws
seens_append [] ws = refl
seens_append (v ∷ vs) ws = ap (λ (us : List Slot). seen v ∷ us) (seens_append vs ws)

pub seens_at : (vs : List Slot) (i : ℕ) (d : Slot) → get_or (seens vs) i (seen d) ≡ seen (get_or vs i d)
seens_at [] i d = refl
seens_at (v ∷ vs) zero d = refl
seens_at (v ∷ vs) (suc i) d = seens_at vs i d

-- only a slot of kind 6 is seen otherwise than it stands
pub seen_same : (v : Slot) → eqb v.kind 6 ≡ false → seen v ≡ v
seen_same v e = rw e

-- and what is seen as anything but a plain integer stands as it is seen
pub seen_kept : (v : Slot) → ((seen v).kind ≡ 2 → ⊥) → seen v ≡ v
seen_kept v h =
    on (eqb v.kind 6)
    (λ e. on (eqb v.«data» 0) (λ f. absurd (h (rw (e, f))))
    (λ f. rw (e, f) (ap (λ (k : ℕ). record { kind = k; parent = v.parent; key = v.key; len = v.len; «data» = v.«data» }) (sym (eqb-true v.kind 6 e)))))
    (λ e. seen_same v e)

-- it holds the same integer
pub seen_number : (v : Slot) → number_at (seen v) ≡ number_at v
seen_number v = go v.kind v.«data»
  where
    go : (k n : ℕ) → number_of (eqb (seen_kind k n) 6) n ≡ number_of (eqb k 6) n
    go k zero = on (eqb k 6) (λ e. rw e) (λ e. rw (e, e))
    go k (suc n) = on (eqb k 6) (λ e. rw (e, eqb-suc-zero n)) (λ e. rw (e, e))

-- what an integer by sign and magnitude is seen as
pub seen_int : (parent : ℕ) (neg : Bool) (n : ℕ) → seen (int_slot parent (record { neg = neg; mag = n })) ≡ whole_slot parent (number_of neg n)
seen_int parent false n = refl
seen_int parent true zero = refl
seen_int parent true (suc n) = rw (eqb-suc-zero n)

-- and the slot of an integer holds it
pub whole_number : (parent : ℕ) (i : ℤ) → number_at (whole_slot parent i) ≡ i
whole_number parent (pos n) = refl
whole_number parent (negsuc n) = refl
