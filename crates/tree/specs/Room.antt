-- The tree room: value number n is the 32 bytes from 32 * n on, and hangs under a parent: 0 none yet, 1 the root, n + 2 value number n.
use Rattle.std.specs.Prelude.{ℕ, zero, suc, ◌+◌, ◌*◌, ◌-◌, ◌^◌, ◌≤◌, ◌<◌, Bool, true, false, List, ◌∷◌, ◌++◌, ◌≡◌, eqb, leb, length, get_or, Option, Some, None}
use Rattle.meaning.specs.Base.{pick, zeros, same, part}
use Rattle.laws.specs.Stored.{stored}
use Rattle.slices.specs.Numbers.{little, number}
use Rattle.tree.specs.declared.Slot.{Slot}

-- there is room for n values
pub record Holds (room : List ℕ) (n : ℕ) : Type 0 where
  pub fits : 32 * n ≤ length room

-- parent, key and its length; data and 16 spare bytes
unfoldable pub place : Slot → List ℕ
place v = little 2 v.parent ++ (little 2 v.key ++ little 2 v.len)

unfoldable pub body : Slot → List ℕ
body v = little 8 v.«data» ++ zeros 16

-- a value's 32 bytes: kind, a spare byte, where it hangs, what it is
unfoldable pub cell : Slot → List ℕ
cell v = v.kind ∷ 0 ∷ (place v ++ body v)

-- what stands at number n
unfoldable pub slot_at : List ℕ → ℕ → Slot
slot_at room n =
    record {
      kind = get_or room (32 * n) 0;
      parent = number 2 room (32 * n + 2);
      key = number 2 room (32 * n + 4);
      len = number 2 room (32 * n + 6);
      «data» = number 8 room (32 * n + 8);
    }

-- the same value under a parent with a key
abbrev pub hung : ℕ → ℕ → ℕ → Slot → Slot
hung parent key len v = record { kind = v.kind; parent = parent; key = key; len = len; «data» = v.«data» }

-- value number n hung up, in the room
abbrev pub hung_at : List ℕ → ℕ → ℕ → ℕ → ℕ → List ℕ
hung_at room n parent key len = stored room (32 * n) (cell (hung parent key len (slot_at room n)))

-- the fields fit their bytes
pub record Sized (v : Slot) : Type 0 where
  pub parent : v.parent < 256 ^ 2
  pub key : v.key < 256 ^ 2
  pub len : v.len < 256 ^ 2
  pub bits : v.«data» < 256 ^ 8

-- a value's key is these bytes; one that runs past the store is no key
unfoldable pub keyed : List ℕ → Slot → List ℕ → Bool
keyed store v key = pick (leb (v.key + v.len) (length store)) (same (part v.key (v.key + v.len) store) key) false

-- value number n hangs under the parent
unfoldable pub under : List ℕ → ℕ → ℕ → Bool
under room n parent = eqb (slot_at room n).parent parent

-- and with this key
unfoldable pub mine : List ℕ → List ℕ → ℕ → ℕ → List ℕ → Bool
mine room store n parent key = pick (under room n parent) (keyed store (slot_at room n) key) false

-- the newest of the values made that has the parent and the key: a key's value is what was hung up last
abbrev pub look : List ℕ → List ℕ → ℕ → ℕ → List ℕ → Option ℕ
look room store zero parent key = None
look room store (suc n) parent key = pick (mine room store n parent key) (Some n) (look room store n parent key)

-- the first of k values from number i on that has the parent
abbrev pub first : List ℕ → ℕ → ℕ → ℕ → Option ℕ
first room parent zero i = None
first room parent (suc k) i = pick (under room i parent) (Some i) (first room parent k (i + 1))

-- the first child from a number on: the items of an array stand in the order of their numbers
unfoldable pub child : List ℕ → ℕ → ℕ → ℕ → Option ℕ
child room made parent from = first room parent (made - from) from

-- none of k values from number i on has the parent
abbrev pub idle : List ℕ → ℕ → ℕ → ℕ → Bool
idle room parent zero i = true
idle room parent (suc k) i = pick (under room i parent) false (idle room parent k (i + 1))

-- no value from low to before high has the parent
pub record Clear (room : List ℕ) (parent low high : ℕ) : Type 0 where
  pub order : low ≤ high
  pub none : (j : ℕ) → low ≤ j → j < high → under room j parent ≡ false

-- how many of the values made have the parent
abbrev pub count : List ℕ → ℕ → ℕ → ℕ
count room zero parent = 0
count room (suc n) parent = pick (under room n parent) (count room n parent + 1) (count room n parent)

-- the number found is at least low, and below high
abbrev pub From : ℕ → Option ℕ → Type 0
From low (Some n) = low ≤ n
From low None = Unit

abbrev pub Below : ℕ → Option ℕ → Type 0
Below high (Some n) = n < high
Below high None = Unit

-- what a search among values from low to before high says
pub record Finds (low high : ℕ) (meant r : Option ℕ) : Type 0 where
  pub is : r ≡ meant
  pub from : From low r
  pub below : Below high r

-- what counting says
pub record Counts (room : List ℕ) (made parent r : ℕ) : Type 0 where
  pub is : r ≡ count room made parent
  pub fits : r ≤ made
