-- What a reader leaves in the two rooms: bytes after those of the store, values after those of the tree room, refused or not.
use Rattle.std.specs.Prelude.{ℕ, ◌+◌, ◌*◌, ◌≤◌, ◌<◌, List, [], ◌∷◌, ◌++◌, ◌≡◌, eqb, length, Result, Ok, Err}
use Rattle.meaning.specs.Base.{pick}
use Rattle.meaning.specs.Numbered.{number}
use Rattle.laws.specs.Stored.{stored}
use Rattle.tree.specs.declared.Slot.{Slot}
use Rattle.tree.specs.Room.{cell}
use Rattle.values.specs.declared.State.{State}
use Rattle.values.specs.declared.Stopped.{Stopped}

-- 0 or the number of the fault; the bytes and the values added until then
pub record Out : Type 0 where
  pub fault : ℕ
  pub bytes : List ℕ
  pub slots : List Slot

abbrev pub fine : List ℕ → List Slot → Out
fine bs vs = record { fault = 0; bytes = bs; slots = vs }

abbrev pub wrong : ℕ → List ℕ → Out
wrong n bs = record { fault = n; bytes = bs; slots = [] }

-- o, and then p
abbrev pub join : Out → Out → Out
join o p = record { fault = p.fault; bytes = o.bytes ++ p.bytes; slots = o.slots ++ p.slots }

-- o, and where it has no fault then what k says, told how many bytes and values there are by then
abbrev pub and_then : ℕ → ℕ → Out → (ℕ → ℕ → Out) → Out
and_then used made o k = pick (eqb o.fault 0) (join o (k (used + length o.bytes) (made + length o.slots))) o

-- the state after o
abbrev pub moved : State → Out → State
moved st o = record { used = st.used + length o.bytes; made = st.made + length o.slots }

-- 0 or the number that the code refuses with
abbrev pub fault_of : Result State Stopped → ℕ
fault_of (Ok at) = 0
fault_of (Err e) = number e.refused

-- the state that it tells, refused or not
abbrev pub state_of : Result State Stopped → State
state_of (Ok at) = at
state_of (Err e) = e.at

-- the answer of the code
pub record Replies (st : State) (o : Out) (r : Result State Stopped) : Type 0 where
  pub fault : fault_of r ≡ o.fault
  pub there : state_of r ≡ moved st o

abbrev pub cells : List Slot → List ℕ
cells [] = []
cells (v ∷ vs) = cell v ++ cells vs

-- the rooms take what a text s may add: its bytes, and values up to the limit
pub record Ready (limit : ℕ) (s store tree : List ℕ) (st : State) : Type 0 where
  pub room : st.used + length s ≤ length store
  pub low : st.used + length s < 65536
  pub slots : 32 * limit ≤ length tree
  pub few : limit < 65000
  pub made : st.made ≤ limit

-- a reader of s that adds o
pub record Filled (limit : ℕ) (s store tree store' tree' : List ℕ) (st : State) (o : Out) (r : Result State Stopped) : Type 0 where
  pub says : Replies st o r
  pub short : length o.bytes ≤ length s
  pub most : st.made + length o.slots ≤ limit
  pub store_is : store' ≡ stored store st.used o.bytes
  pub tree_is : tree' ≡ stored tree (32 * st.made) (cells o.slots)

-- one that adds at most a value, and no bytes
pub record Made (limit : ℕ) (tree tree' : List ℕ) (st : State) (o : Out) (r : Result State Stopped) : Type 0 where
  pub says : Replies st o r
  pub none : o.bytes ≡ []
  pub most : st.made + length o.slots ≤ limit
  pub tree_is : tree' ≡ stored tree (32 * st.made) (cells o.slots)

-- what it asks
pub record Places (limit : ℕ) (tree : List ℕ) (st : State) : Type 0 where
  pub slots : 32 * limit ≤ length tree
  pub few : limit < 65000
  pub made : st.made ≤ limit
