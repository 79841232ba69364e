-- Joined lines by a count that is carried on: the same lines, and each byte is counted once (W-205).
use Rattle.std.specs.Prelude.{ℕ, ◌+◌, ◌≤◌, ◌<◌, List, [], ◌∷◌, ◌++◌, ◌≡◌, length}
use Rattle.meaning.specs.declared.Limits.{Limits}
use Rattle.meaning.specs.declared.Scan.{Scan}
use Rattle.meaning.specs.Base.{part}
use Rattle.meaning.specs.Refusal.{accepted}
use Rattle.meaning.specs.Lines.{Line, lines, joined}
use Rattle.meaning.specs.Carried as carried
use Rattle.text.specs.declared.Counted.{Counted}
use Rattle.text.specs.Laid.{laid}
use Rattle.text.specs.Parts.{Part, parts, Counts}
use Rattle.theorems.specs.Words.{At}

-- lines, their numbers and refusals are those of 01, which counts over the joined text
abbrev pub CarriedIsCounted : Type 0
CarriedIsCounted = (limits : Limits) (text : List ℕ) → carried.lines limits text ≡ lines limits text

-- the parts of a text that are counted, each in a call of `count_line`: places in the laid text
abbrev pub parts_of : List ℕ → List Part
parts_of text = parts (laid text) 0

-- each part lies within the laid text
abbrev pub PartsAreWithin : Type 0
PartsAreWithin = (text : List ℕ) (i : ℕ) (p : Part) → At (parts_of text) i p → (p.from < p.end) × (p.end ≤ length (laid text))

-- and behind all that were counted before it, so no two have a byte in common
abbrev pub PartsAreApart : Type 0
PartsAreApart = (text : List ℕ) (i j : ℕ) (p q : Part) → At (parts_of text) i p → At (parts_of text) j q → i < j → p.end ≤ q.from

-- the bytes of all parts
abbrev pub bytes_of : List ℕ → List Part → List ℕ
bytes_of s [] = []
bytes_of s (p ∷ ps) = part p.from p.end s ++ bytes_of s ps

-- the bytes of all joined lines, each with its LF
abbrev pub bytes_in : List Line → List ℕ
bytes_in [] = []
bytes_in (l ∷ ls) = (l.text ++ (10 ∷ [])) ++ bytes_in ls

-- where no line is refused by 3 or 4, what is counted is every joined line with its LF: nothing is left out
abbrev pub PartsAreTheLines : Type 0
PartsAreTheLines = (text : List ℕ) (ls : List Line) → joined text ≡ accepted ls → bytes_of (laid text) (parts_of text) ≡ bytes_in ls

-- a call is told where its part starts, and finds out where it ends; what it answers is settled by its part, the line
-- with its LF: of two texts that have it there the answers are the same
abbrev pub PartSettlesTheCount : Type 0
PartSettlesTheCount = (s s' : List ℕ) (at : ℕ) (c : Scan) (r r' : Counted) → Counts s at c r → Counts s' at c r'
    → r.end < length s → part at (r.end + 1) s' ≡ part at (r.end + 1) s → r' ≡ r
