-- Which part of a laid text each call of `count_line` counts: "so that each byte is looked at once" (W-205).
use Rattle.std.specs.Prelude.{ℕ, ◌+◌, ◌≤◌, ◌<◌, List, [], ◌∷◌, ◌++◌, ◌≡◌, length, take, drop}
use Rattle.std.proofs.Math.Option.{Option, none, some}
use Rattle.meaning.specs.declared.Fate.{Fate}
use Rattle.meaning.specs.declared.Fate.TheVariants.{Over, Unended, Whole}
use Rattle.meaning.specs.Base.{pick, before}
use Rattle.meaning.specs.Space.{blank}
use Rattle.meaning.specs.declared.Scan.{Scan}
use Rattle.meaning.specs.Quote.{fresh, scan, step}
use Rattle.meaning.specs.Lines.{fate}
use Rattle.text.specs.declared.Counted.{Counted}
use Rattle.text.specs.declared.Place.{Place}
use Rattle.text.specs.Laid.{lines_of}

-- from where up to where
pub record Part : Type 0 where
  pub from : ℕ
  pub end : ℕ

-- a line at a place, with its LF, is one part; the count after it says how the others go on: no further after a
-- surplus `]`, with that count where the line is open, afresh where it is whole
abbrev pub part_first : ℕ → ℕ → Fate → Scan → (Option Scan → List Part) → List Part
part_first from end Over c others = record { from = from; end = end } ∷ []
part_first from end Unended c others = record { from = from; end = end } ∷ others (some (step c 10))
part_first from end Whole c others = record { from = from; end = end } ∷ others none

abbrev pub parts_in : Option Scan → ℕ → List (List ℕ) → List Part
parts_in o at [] = []
parts_in none at (l ∷ ls) =
    pick (blank l) (parts_in none (at + length l + 1) ls)
    (part_first at (at + length l + 1) (fate (scan fresh l)) (scan fresh l) (λ o. parts_in o (at + length l + 1) ls))
parts_in (some c) at (l ∷ ls) =
    part_first at (at + length l + 1) (fate (scan c l)) (scan c l) (λ o. parts_in o (at + length l + 1) ls)

-- the parts of a laid text that are counted from a place between joined lines on
unfoldable pub parts : List ℕ → ℕ → List Part
parts s at = parts_in none at (lines_of (drop at s))

-- one behind the other, none before low and none past high
abbrev pub Apart : ℕ → ℕ → List Part → Type 0
Apart low high [] = Unit
Apart low high (p ∷ ps) = (low ≤ p.from) × (p.from < p.end) × (p.end ≤ high) × Apart p.end high ps

-- one behind the other from low to high, without a gap
abbrev pub Tiles : ℕ → ℕ → List Part → Type 0
Tiles low high [] = low ≡ high
Tiles low high (p ∷ ps) = (low ≡ p.from) × (p.from < p.end) × Tiles p.end high ps

-- of the parts of the joined line at the head of s, and of those behind it, the line at a place is next, with count c:
-- those before it lie before it, without a gap
pub record Due (s : List ℕ) (at : ℕ) (c : Scan) : Type 0 where
  pub done : List Part
  pub tiles : Tiles 0 at done
  pub all : parts_in (some fresh) 0 (lines_of s) ≡ done ++ parts_in (some c) at (lines_of (drop at s))

-- what `count_line` asks for: a part that is due, and no more brackets before it than bytes
pub record Countable (s : List ℕ) (at : ℕ) (c : Scan) : Type 0 where
  pub high : at ≤ length s
  pub opens : c.opens ≤ at
  pub closes : c.closes ≤ at
  pub due : Due s at c

-- the line at the head of s, without its LF
abbrev pub line_of : List ℕ → List ℕ
line_of s = take (before 10 s) s

-- what `count_line` leaves: where the line at a place ends, and the count over it, carried onward from c
pub record Counts (s : List ℕ) (at : ℕ) (c : Scan) (r : Counted) : Type 0 where
  pub fits : r.end ≤ length s
  pub is : r.end ≡ at + before 10 (drop at s)
  pub counts : r.count ≡ scan c (line_of (drop at s))
  pub opens : r.count.opens ≤ r.end
  pub closes : r.count.closes ≤ r.end

-- the first of the parts ps are those of the joined line that lies at from, one for each of its lines, the first of
-- number n; the others are those from the place after it on
pub record Hands (s : List ℕ) (ps : List Part) (from n : ℕ) (p : Place) : Type 0 where
  pub own : List Part
  pub tiles : Tiles from p.at own
  pub count : n + length own ≡ p.line
  pub all : ps ≡ own ++ parts s p.at
