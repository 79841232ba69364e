-- "Items split at commas outside strings where the bracket count is zero": where the first item of a text ends.
use Rattle.std.specs.Prelude.{ℕ, ◌≤◌, List, ◌≡◌, length}
use Rattle.meaning.specs.Quote.{fresh, step}
use Rattle.meaning.specs.Values.{separates?}
use Rattle.laws.specs.Splits.{lead}

-- how many bytes stand before the first separating comma, or in all where there is none
abbrev pub item_size : List ℕ → ℕ
item_size s = lead step separates? fresh s

pub record Item (s : List ℕ) (r : ℕ) : Type 0 where
  pub is : r ≡ item_size s
  pub fits : r ≤ length s
