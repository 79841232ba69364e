-- The values of a line, as the readers lay them out, are what is asked of them.
use Rattle.std.specs.Prelude.{ℕ, List, ◌++◌, ◌≡◌, length}

-- the bytes xs stand at a place of the store
pub record Stands (bytes : List ℕ) (used : ℕ) (xs : List ℕ) : Type 0 where
  pub before : List ℕ
  pub after : List ℕ
  pub is : bytes ≡ before ++ (xs ++ after)
  pub from : length before ≡ used
