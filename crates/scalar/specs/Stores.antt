-- Bytes laid into a store after those already there.
use Rattle.std.specs.Prelude.{ℕ, ◌+◌, ◌≤◌, List, length}
unfoldable pub use Rattle.laws.specs.Stored.{stored}
pub use Rattle.meaning.specs.Rooms.{over}

-- from at on, the store takes as many bytes as s has
pub record Room (s store : List ℕ) (at : ℕ) : Type 0 where
  pub room : at + length s ≤ length store
