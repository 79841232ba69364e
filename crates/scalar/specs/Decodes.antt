-- What the string decoder leaves.
use Rattle.std.specs.Prelude.{ℕ, ◌≤◌, ◌<◌, List, ◌≡◌, Result, Ok, Err, length}
use Rattle.meaning.specs.declared.Refused.TheVariants.{BadEscape, UnendedString}
use Rattle.meaning.specs.declared.StringByte.TheVariants.{Plain}
use Rattle.meaning.specs.Strings.{Ending, closed, escape, unended, Said, decode}
use Rattle.scalar.specs.declared.string.Decoded.{Decoded}
use Rattle.scalar.specs.declared.string.BadString.{BadString}
use Rattle.scalar.specs.Stores.{over, stored}
pub use Rattle.scalar.specs.Stores.{Room}

-- the answer for each ending
abbrev pub answer : Ending → ℕ → ℕ → Result Decoded BadString
answer closed span w = Ok (record { used = span; written = w })
answer escape span w = Err (record { refused = BadEscape; at = span; written = w })
answer unended span w = Err (record { refused = UnendedString; at = 0; written = w })

abbrev pub answer_of : Said → Result Decoded BadString
answer_of r = answer r.how r.span (length r.bytes)

-- how far an answer goes in n bytes of text
pub record Closed (n : ℕ) (d : Decoded) : Type 0 where
  pub fits : d.used ≤ n
  pub less : d.written < d.used

pub record Stuck (n : ℕ) (e : BadString) : Type 0 where
  pub most : e.written ≤ n
  pub inside : e.refused ≡ BadEscape → (e.at < n) × (e.written ≤ e.at)

abbrev pub Within : ℕ → Result Decoded BadString → Type 0
Within n (Ok d) = Closed n d
Within n (Err e) = Stuck n e

-- what `decode` leaves: its answer, and in the room the bytes decoded with what stood past them
pub record Decodes (src out out' : List ℕ) (r : Result Decoded BadString) : Type 0 where
  pub says : r ≡ answer_of (decode Plain src)
  pub left : out' ≡ over (decode Plain src).bytes out
  pub within : Within (length src) r

-- what `put_string` leaves: the same, from at on in the store
pub record Puts (src store : List ℕ) (at : ℕ) (store' : List ℕ) (r : Result Decoded BadString) : Type 0 where
  pub says : r ≡ answer_of (decode Plain src)
  pub left : store' ≡ stored store at (decode Plain src).bytes
  pub within : Within (length src) r
