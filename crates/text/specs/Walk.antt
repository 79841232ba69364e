-- The walk over joined lines, each told by its place in a laid text.
use Rattle.std.specs.Prelude.{ℕ, ◌+◌, ◌≤◌, ◌<◌, false, List, [], ◌∷◌, ◌++◌, ◌≡◌, eqb, ltb, length, drop, Option, None, Some, Result, Ok, Err}
use Rattle.meaning.specs.declared.Fate.{Fate}
use Rattle.meaning.specs.declared.Fate.TheVariants.{Over, Unended, Whole}
use Rattle.meaning.specs.declared.Refused.{Refused}
use Rattle.meaning.specs.declared.Refused.TheVariants.{ClosedTooOften, NeverClosed}
use Rattle.meaning.specs.Numbered.{number}
use Rattle.meaning.specs.Base.{pick, part}
use Rattle.meaning.specs.Refusal.{Answer, accepted, accepted_then, at_line}
use Rattle.meaning.specs.Space.{blank}
use Rattle.meaning.specs.declared.Scan.{Scan}
use Rattle.meaning.specs.Quote.{fresh, scan, step}
use Rattle.meaning.specs.Lines.{Line, closed, fate, join}
use Rattle.text.specs.declared.Extent.{Extent}
use Rattle.text.specs.declared.JoinedLine.{JoinedLine}
use Rattle.text.specs.declared.AtLine.{AtLine}
use Rattle.text.specs.declared.Place.{Place}
use Rattle.text.specs.Laid.{lines_of}
use Rattle.text.specs.Parts.{Part, parts, Apart, Hands}

-- what the joined line at the head of a text comes to: none, where it has no LF; how far it reaches; 3 or 4
abbrev pub Joint : Type 0
Joint = Result (Option Extent) Refused

-- what the next joined line comes to: none is left; where it lies; 3 or 4 at a line
abbrev pub Next : Type 0
Next = Result (Option JoinedLine) AtLine

-- a whole one, of this many bytes and lines
abbrev pub reaching : ℕ → ℕ → Joint
reaching end lines = Ok (Some (record { end = end; lines = lines }))

-- by what a line is, joined so far
abbrev pub by_fate : Fate → Joint → Joint → Joint
by_fate Over more whole = Err ClosedTooOften
by_fate Unended more whole = more
by_fate Whole more whole = whole

-- a line with its text t so far, which m physical lines make, and the lines that follow
abbrev pub gather : List ℕ → ℕ → List (List ℕ) → Joint
gather t m [] = by_fate (fate (scan fresh t)) (Err NeverClosed) (reaching (length t) m)
gather t m (l ∷ ls) = by_fate (fate (scan fresh t)) (gather (t ++ (10 ∷ l)) (m + 1) ls) (reaching (length t) m)

-- the joined line that starts at the head of lines
abbrev pub joint_in : List (List ℕ) → Joint
joint_in [] = Ok None
joint_in (l ∷ ls) = gather l 1 ls

unfoldable pub joint : List ℕ → Joint
joint s = joint_in (lines_of s)

-- a text that ends after the LFs of m - 1 lines
unfoldable pub ending : ℕ → Joint
ending m = pick (eqb m 1) (Ok None) (Err NeverClosed)

-- the joined line that goes on with the lines: the count c is carried on to the first of them, its m-th line, at i
abbrev pub joint_from : Scan → ℕ → ℕ → List (List ℕ) → Joint
joint_from c i m [] = ending m
joint_from c i m (l ∷ ls) =
    by_fate (fate (scan c l)) (joint_from (step (scan c l) 10) (i + length l + 1) (m + 1) ls) (reaching (i + length l) m)

-- the same, told by the place where it starts and the number n of its first line
abbrev pub placed : ℕ → ℕ → Joint → Next
placed at n (Ok None) = Ok None
placed at n (Ok (Some x)) = Ok (Some (record { from = at; end = at + x.end; line = n; next = record { at = at + x.end + 1; line = n + x.lines } }))
placed at n (Err r) = Err (record { refused = r; line = n })

-- blank lines are passed first
abbrev pub next_in : ℕ → ℕ → List (List ℕ) → Next
next_in at n [] = Ok None
next_in at n (l ∷ ls) = pick (blank l) (next_in (at + length l + 1) (n + 1) ls) (placed at n (gather l 1 ls))

-- the next joined line of a laid text, from a place between joined lines on
unfoldable pub next : List ℕ → ℕ → ℕ → Next
next s at n = next_in at n (lines_of (drop at s))

-- a joined line ends within s, and has no more lines than bytes and one
pub record Within (s : List ℕ) (e m : ℕ) : Type 0 where
  pub fits : e < length s
  pub lines : m ≤ e + 1

abbrev pub Fit : List ℕ → Joint → Type 0
Fit s (Ok None) = Unit
Fit s (Ok (Some x)) = Within s x.end x.lines
Fit s (Err r) = Unit

-- what `join_line` leaves
pub record Joined (s : List ℕ) (r : Joint) : Type 0 where
  pub is : r ≡ joint s
  pub fit : Fit s r

-- no line that begins with b is blank
pub record Dark (b : ℕ) : Type 0 where
  pub line : b ≡ 10 → ⊥
  pub plain : (l : List ℕ) → blank (b ∷ l) ≡ false

-- where blank lines end
pub record Skipped (s : List ℕ) (at n : ℕ) (p : Place) : Type 0 where
  pub on : at ≤ p.at
  pub count : p.line + at ≤ n + p.at
  pub is : next s at n ≡ pick (ltb p.at (length s)) (placed p.at p.line (joint (drop p.at s))) (Ok None)

-- a joined line lies after at, and the place after it in s; a line number grows by no more than the bytes passed
pub record Onward (s : List ℕ) (at n : ℕ) (l : JoinedLine) : Type 0 where
  pub on : at ≤ l.from
  pub number : l.line + at ≤ n + l.from
  pub low : l.from ≤ l.end
  pub high : l.end < l.next.at
  pub fits : l.next.at ≤ length s
  pub count : l.next.line + at ≤ n + l.next.at

abbrev pub Advance : List ℕ → ℕ → ℕ → Next → Type 0
Advance s at n (Ok None) = Unit
Advance s at n (Ok (Some l)) = Onward s at n l
Advance s at n (Err u) = u.line + at ≤ n + length s

-- what the next joined line says of the parts ps that are counted from at on
abbrev pub Handed : List ℕ → ℕ → List Part → Next → Type 0
Handed s at ps (Ok None) = ps ≡ []
Handed s at ps (Ok (Some l)) = Hands s ps l.from l.line l.next
Handed s at ps (Err u) = Apart at (length s) ps

-- what `next_line` leaves
pub record Follows (s : List ℕ) (at n : ℕ) (r : Next) : Type 0 where
  pub is : r ≡ next s at n
  pub advance : Advance s at n r
  pub handed : Handed s at (parts s at) r

-- what the next joined line says of all the joined lines j from there on: it is the first, and the others start after it
abbrev pub Says : List ℕ → Answer (List Line) → Next → Type 0
Says s j (Ok None) = j ≡ accepted []
Says s j (Ok (Some l)) =
    j ≡ accepted_then (join closed l.next.line (lines_of (drop l.next.at s))) (λ r. accepted (record { at = l.line; text = part l.from l.end s } ∷ r))
Says s j (Err u) = j ≡ at_line (number u.refused) u.line
