-- What one segment of a key comes to, and what it leaves in the store.
use Rattle.std.specs.Prelude.{ℕ, ◌≤◌, List, ◌≡◌, Option, Some, None, Result, Ok, Err, eqb, length, get_or, drop}
use Rattle.meaning.specs.Base.{pick}
use Rattle.meaning.specs.Refusal.{R, ok, bad}
use Rattle.meaning.specs.Numbered.{number}
use Rattle.meaning.specs.declared.Refused.{Refused}
use Rattle.meaning.specs.declared.StringByte.TheVariants.{Plain}
use Rattle.meaning.specs.Strings.{decode}
use Rattle.meaning.specs.Space.{trim}
use Rattle.meaning.specs.Keys.{nonempty, quoted, segment}
use Rattle.scalar.specs.declared.key.BadSegment.{BadSegment}
use Rattle.scalar.specs.Stores.{stored}

-- the number of a refusal, or x where there is none
abbrev pub told : {X : Type 0} → Option Refused → X → R X
told None x = ok x
told (Some r) x = bad (number r)

-- what an answer is refused with, and how many bytes it left
abbrev pub refusal : Result ℕ BadSegment → Option Refused
refusal (Ok n) = None
refusal (Err e) = Some e.refused

abbrev pub written : Result ℕ BadSegment → ℕ
written (Ok n) = n
written (Err e) = e.written

-- what a trimmed segment leaves in the store, refused or not: all that is decoded of a quoted one, or the segment itself
unfoldable pub laid : List ℕ → List ℕ
laid p = pick (eqb (get_or p 0 0) 34) (decode Plain (drop 1 p)).bytes p

-- what the reader of a segment s that means m leaves: its answer, and the bytes, laid from at on in the store
pub record Segmented (s : List ℕ) (m : R (List ℕ)) (bytes store : List ℕ) (at : ℕ) (store' : List ℕ) (r : Result ℕ BadSegment) : Type 0 where
  pub says : told (refusal r) bytes ≡ m
  pub wrote : written r ≡ length bytes
  pub fits : written r ≤ length s
  pub left : store' ≡ stored store at bytes

-- of a segment without quotes, of what stands after an opening quote, of a trimmed segment, and of a part between dots
abbrev pub BareSegment : List ℕ → List ℕ → ℕ → List ℕ → Result ℕ BadSegment → Type 0
BareSegment p store at store' r = Segmented p (nonempty p) p store at store' r

abbrev pub QuotedSegment : List ℕ → List ℕ → ℕ → List ℕ → Result ℕ BadSegment → Type 0
QuotedSegment p store at store' r = Segmented p (quoted p) (decode Plain p).bytes store at store' r

abbrev pub TrimmedSegment : List ℕ → List ℕ → ℕ → List ℕ → Result ℕ BadSegment → Type 0
TrimmedSegment p store at store' r = Segmented p (segment p) (laid p) store at store' r

abbrev pub KeyPart : List ℕ → List ℕ → ℕ → List ℕ → Result ℕ BadSegment → Type 0
KeyPart s store at store' r = Segmented s (segment (trim s)) (laid (trim s)) store at store' r
