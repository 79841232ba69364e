-- Several bytes at once.
use Rattle.std.specs.Prelude.{ℕ, ◌+◌, ◌≤◌, ◌<◌, List, length, get_or}
use Rattle.std.proofs.Common.{arith}
use Rattle.std.specs.Int.Bits.{bit_or, or_add_and}
use Rattle.std.proofs.lemmas.Nat.{and_le_l, and_le_r}

-- there are n bytes from i on, and none is over m
pub record Under (s : List ℕ) (i n m : ℕ) : Type 0 where
  pub fits : i + n ≤ length s
  pub all : (k : ℕ) → k < n → get_or s (i + k) 0 ≤ m

pub or_left : (a b : ℕ) → a ≤ bit_or a b
or_left a b = omega (arith, or_add_and a b, and_le_r a b)

pub or_right : (a b : ℕ) → b ≤ bit_or a b
or_right a b = omega (arith, or_add_and a b, and_le_l a b)
