-- The two rooms that reading leaves, with the count of values made.
use Rattle.std.specs.Prelude.{ℕ, ◌≡◌, List, Option, Some, None}
use Rattle.tree.specs.declared.rooms.Rooms.{Rooms}
use Rattle.tree.specs.Doors as doors

-- a definition over the tree room, the text store and the count, of these
abbrev pub on {ℓ} : {X : Type ℓ} → (List ℕ → List ℕ → ℕ → X) → Rooms → X
on f r = f r.tree.now r.store.now r.made

-- they are these
pub record Of (room store : List ℕ) (made : ℕ) (r : Rooms) : Type 0 where
  pub tree_is : r.tree.now ≡ room
  pub store_is : r.store.now ≡ store
  pub made_is : r.made ≡ made

-- any two rooms, where they hold so many values
abbrev pub Opened : List ℕ → List ℕ → ℕ → Option Rooms → Type 0
Opened room store made None = ¬ (doors.Rooms room made)
Opened room store made (Some r) = Of room store made r
