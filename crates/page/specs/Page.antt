-- What writing on a lent page leaves.
use Rattle.std.specs.Prelude.{ℕ, ◌+◌, ◌-◌, ◌≤◌, List, ◌≡◌, length, take, drop}
use Rattle.meaning.specs.Print.{decimal}
use Rattle.laws.specs.Stored.{stored}
use Rattle.page.specs.declared.Page.{Page}

-- as many of the bytes as a page takes from a place on
abbrev pub fitting : List ℕ → ℕ → List ℕ → List ℕ
fitting out at s = take (length out - at) s

-- bytes after what stands on a page, as many as it takes, and the place after them
pub record Wrote (s out : List ℕ) (at : ℕ) (out' : List ℕ) (at' : ℕ) : Type 0 where
  pub left : out' ≡ stored out at (fitting out at s)
  pub place : at' ≡ at + length (fitting out at s)

-- a number's digits at the end of a room of 20 bytes
pub record Digits (n : ℕ) (room : List ℕ) (from : ℕ) : Type 0 where
  pub long : length room ≡ 20
  pub begins : from ≤ 20
  pub says : drop from room ≡ decimal n

-- bytes after what stands on a page, on the same lent bytes
pub record Adds (s : List ℕ) (old new : Page) : Type 0 where
  pub same : new.out.ghost_name ≡ old.out.ghost_name
  pub wrote : Wrote s old.out.now old.at new.out.now new.at
