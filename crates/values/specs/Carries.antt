-- The tie between a room of bytes and the list of its values, and what the steps on the room ask and leave.
use Rattle.std.specs.Prelude.{ℕ, zero, suc, ◌+◌, ◌-◌, ◌*◌, ◌≤◌, ◌<◌, List, [], ◌∷◌, ◌++◌, ◌≡◌, length, get_or, take, Option, Result, Ok, Err}
use Rattle.meaning.specs.declared.Refused.{Refused}
use Rattle.meaning.specs.Numbered.{number}
use Rattle.meaning.specs.Refusal.{R, ok, bad}
use Rattle.scalar.specs.Stores.{over}
use Rattle.scalar.specs.declared.key.Key.{Key}
use Rattle.tree.specs.declared.Slot.{Slot}
use Rattle.tree.specs.Room.{Sized, Below, slot_at}
use Rattle.values.specs.declared.grow.Here.{Here}
use Rattle.values.specs.declared.grow.Segment.{Segment}
use Rattle.values.specs.Out.{cells}
use Rattle.values.specs.Grow.{Seg, Grown, grown, stuck}

-- the first n values of a room
abbrev pub slots_of : List ℕ → ℕ → List Slot
slots_of tree zero = []
slots_of tree (suc n) = slots_of tree n ++ (slot_at tree n ∷ [])

abbrev pub AllSized : List Slot → Type 0
AllSized [] = Unit
AllSized (v ∷ vs) = Sized v × AllSized vs

-- the room begins with the cells of these values
pub record Carries (tree : List ℕ) (slots : List Slot) : Type 0 where
  pub is : tree ≡ over (cells slots) tree
  pub sized : AllSized slots
  pub fits : 32 * length slots ≤ length tree

-- the store begins with these bytes
pub record Begins (store bytes : List ℕ) : Type 0 where
  pub is : store ≡ over bytes store

-- the keys of these values, and these segments, lie in the first top bytes
abbrev pub AllWithin : ℕ → List Slot → Type 0
AllWithin top [] = Unit
AllWithin top (v ∷ vs) = (v.key + v.len ≤ top) × AllWithin top vs

abbrev pub SegsWithin : ℕ → List Seg → Type 0
SegsWithin top [] = Unit
SegsWithin top (k ∷ ks) = (k.at + k.len ≤ top) × SegsWithin top ks

abbrev pub GrownWithin : ℕ → Grown → Type 0
GrownWithin top (grown vs p) = AllWithin top vs
GrownWithin top (stuck n) = Unit

-- what every step asks: "values" up to a limit whose places fit two bytes
pub record Grows (limit : ℕ) (tree : List ℕ) (made : ℕ) : Type 0 where
  pub carried : Carries tree (slots_of tree made)
  pub room : 32 * limit ≤ length tree
  pub few : limit < 65000
  pub most : made ≤ limit

-- a segment lies in the store, where two bytes tell
pub record Lies (store : List ℕ) (at end : ℕ) : Type 0 where
  pub up : at ≤ end
  pub within : end ≤ length store
  pub low : end < 65536

-- what making a value asks
pub record Makes (limit : ℕ) (tree : List ℕ) (made : ℕ) (v : Slot) : Type 0 where
  pub grows : Grows limit tree made
  pub sized : Sized v

-- what making a value with a key asks
pub record Keys (limit : ℕ) (tree : List ℕ) (made at end : ℕ) : Type 0 where
  pub grows : Grows limit tree made
  pub up : at ≤ end
  pub low : end < 65536

-- what reading value number n asks
pub record Numbered (tree : List ℕ) (made n : ℕ) : Type 0 where
  pub carried : Carries tree (slots_of tree made)
  pub below : n < made

-- what looking for a segment asks, and what it says
pub record Seeks (tree store : List ℕ) (made at end : ℕ) : Type 0 where
  pub holds : 32 * made ≤ length tree
  pub up : at ≤ end
  pub within : end ≤ length store

pub record Sought (made : ℕ) (meant r : Option ℕ) : Type 0 where
  pub is : r ≡ meant
  pub below : Below made r

-- what a step with a segment asks
pub record Enters (limit : ℕ) (tree store : List ℕ) (made at end : ℕ) : Type 0 where
  pub grows : Grows limit tree made
  pub lies : Lies store at end

-- segments that end at these places lie in the store, the first from at on
abbrev pub Rising : List ℕ → ℕ → List ℕ → Type 0
Rising store at [] = Unit
Rising store at (e ∷ es) = Lies store at e × Rising store e es

-- what a walk along n segments of a key asks
pub record Paths (limit : ℕ) (tree store : List ℕ) (made : ℕ) (key : Key) (at n : ℕ) : Type 0 where
  pub grows : Grows limit tree made
  pub rising : Rising store at (take n key.ends)
  pub few : n ≤ 16
  pub there : n ≤ length key.ends

-- a key that has a segment
pub record SomeKey (key : Key) : Type 0 where
  pub some : 0 < key.n
  pub few : key.n ≤ 16

-- where segment i of a key begins, the first at at
abbrev pub start_of : ℕ → List ℕ → ℕ → ℕ
start_of at ends zero = at
start_of at ends (suc i) = get_or ends i 0

-- its last segment, by where it stands in the store
abbrev pub last_of : Key → ℕ → Segment
last_of key at = record { from = start_of at key.ends (key.n - 1); end = get_or key.ends (key.n - 1) 0 }

-- what a walk along a whole key asks, which has a segment
pub record Keyed (limit : ℕ) (tree store : List ℕ) (made : ℕ) (key : Key) (at : ℕ) : Type 0 where
  pub path : Paths limit tree store made key at key.n
  pub some : 0 < key.n

-- what hanging value number n up asks
pub record Hangs (limit : ℕ) (tree : List ℕ) (made at end n : ℕ) : Type 0 where
  pub keys : Keys limit tree made at end
  pub below : n < made

-- what an assignment of value number n asks
pub record Assigns (limit : ℕ) (tree store : List ℕ) (made : ℕ) (key : Key) (at n : ℕ) : Type 0 where
  pub keyed : Keyed limit tree store made key at
  pub below : n < made

-- what the code answers, with the number of its refusal
abbrev pub numbered : {X : Type 0} → Result X Refused → R X
numbered (Ok x) = ok x
numbered (Err r) = bad (number r)

-- and what a step that means g is to answer
abbrev pub grown_of : ℕ → Grown → R Here
grown_of limit (grown vs p) = ok (record { made = length vs; limit = limit; place = p })
grown_of limit (stuck n) = bad n

-- an accepted step leaves the cells of its values, and the rest of the room as it was
pub record Bigger (limit : ℕ) (tree tree' : List ℕ) (made : ℕ) (vs : List Slot) : Type 0 where
  pub more : made ≤ length vs
  pub most : length vs ≤ limit
  pub carried : Carries tree' vs
  pub is : tree' ≡ over (cells vs) tree

-- a refused one may leave anything
abbrev pub Kept : ℕ → List ℕ → List ℕ → ℕ → Grown → Type 0
Kept limit tree tree' made (grown vs p) = Bigger limit tree tree' made vs
Kept limit tree tree' made (stuck n) = Unit

-- what a step that means g leaves
pub record Grew (limit : ℕ) (tree tree' : List ℕ) (made : ℕ) (g : Grown) (r : Result Here Refused) : Type 0 where
  pub says : numbered r ≡ grown_of limit g
  pub long : length tree' ≡ length tree
  pub kept : Kept limit tree tree' made g
