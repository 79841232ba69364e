-- What the functions on white space leave: where a trimmed part lies.
use Rattle.std.specs.Prelude.{ℕ, ◌-◌, ◌≤◌, ◌<◌, false, List, ◌≡◌, length, get_or, take, drop}
use Rattle.meaning.specs.Utf8.{chars}
use Rattle.meaning.specs.Space.{white, trim_head, trim_tail, trim_start, trim_end, trim}
use Rattle.chars.specs.declared.Span.{Span}

-- the first i bytes of s are white space at its head
pub record Starting (s : List ℕ) (i : ℕ) : Type 0 where
  pub high : i ≤ length s
  pub left : trim_head (chars 0 (drop i s)) ≡ trim_head (chars 0 s)

-- the bytes of s from e on are white space at its end
pub record Ending (s : List ℕ) (e : ℕ) : Type 0 where
  pub high : e ≤ length s
  pub left : trim_tail (chars 0 (take e s)) ≡ trim_tail (chars 0 s)

-- s from r on is s without the white space at its head
pub record Started (s : List ℕ) (r : ℕ) : Type 0 where
  pub high : r ≤ length s
  pub is : drop r s ≡ trim_start s

-- s up to r is s without the white space at its end
pub record Ended (s : List ℕ) (r : ℕ) : Type 0 where
  pub high : r ≤ length s
  pub is : take r s ≡ trim_end s

-- the part of s is s without white space at both ends, and begins where that at the head ends
pub record Trimmed (s : List ℕ) (r : Span) : Type 0 where
  pub low : r.from ≤ r.end
  pub high : r.end ≤ length s
  pub at : r.from ≡ length s - length (trim_start s)
  pub is : take (r.end - r.from) (drop r.from s) ≡ trim s

-- an ASCII byte that is not white
pub record Dark (b : ℕ) : Type 0 where
  pub narrow : b < 128
  pub plain : false ≡ white b

-- s begins and ends with such a byte
pub record Snug (s : List ℕ) : Type 0 where
  pub some : 0 < length s
  pub first : Dark (get_or s 0 0)
  pub final : Dark (get_or s (length s - 1) 0)
