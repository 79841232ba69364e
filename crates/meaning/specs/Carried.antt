-- "Carry the count and the string state onward instead, so that each byte is looked at once" (W-205): joined lines once
-- more. `Lines` counts over the whole joined text each time; here a count is kept beside the open line, and a physical
-- line adds its own bytes to it. `laws/specs/Joins.carried_lines` has the theorem that both are the same.
use Rattle.std.specs.Prelude.{ℕ, ◌+◌, List, [], ◌∷◌, ◌++◌, ltb, length}
use Rattle.meaning.specs.declared.Limits.{Limits}
use Rattle.meaning.specs.declared.Fate.{Fate}
use Rattle.meaning.specs.declared.Fate.TheVariants.{Over, Unended, Whole}
use Rattle.meaning.specs.Base.{pick}
use Rattle.meaning.specs.Bytes.{line_feed}
use Rattle.meaning.specs.Refusal.{Answer, accepted, accepted_then, at_line, at_no_line}
use Rattle.meaning.specs.Utf8.{valid}
use Rattle.meaning.specs.Space.{blank}
use Rattle.meaning.specs.Quote.{Scan, fresh, scan}
use Rattle.meaning.specs.Lines.{Line, physical, kept_lines, fate}

-- nothing open, or a line that goes on: where it starts, its text so far, and its brackets and string state so far
pub data Carrying : Type 0 where
  idle : Carrying
  going : ℕ → List ℕ → Scan → Carrying

-- what one physical line does: the lines it ends, and what is carried on
pub record Carried : Type 0 where
  pub out : List Line
  pub onward : Carrying

-- as `Lines.settle`, by the count that was carried
abbrev pub settle : ℕ → List ℕ → Scan → Fate → Answer Carried
settle at t c Over = at_line 3 at
settle at t c Unended = accepted (record { out = []; onward = going at t c })
settle at t c Whole = accepted (record { out = record { at = at; text = t } ∷ []; onward = idle })

abbrev pub settled : ℕ → List ℕ → Scan → Answer Carried
settled at t c = settle at t c (fate c)

-- physical line n, without its comment: its own bytes are counted, and before them the LF that joins it
unfoldable pub carry_one : Carrying → ℕ → List ℕ → Answer Carried
carry_one idle n l = pick (blank l) (accepted (record { out = []; onward = idle })) (settled n l (scan fresh l))
carry_one (going at t c) n l = settled at (t ++ (line_feed ∷ l)) (scan c (line_feed ∷ l))

-- 4: "text ends with a line still open"
abbrev pub at_close : Carrying → Answer (List Line)
at_close idle = accepted []
at_close (going at t c) = at_line 4 at

-- the joined lines of kept lines, the first of which is number n
abbrev pub carry : Carrying → ℕ → List (List ℕ) → Answer (List Line)
carry p n [] = at_close p
carry p n (l ∷ ls) =
    accepted_then (carry_one p n l) (λ s. accepted_then (carry s.onward (n + 1) ls) (λ r. accepted (s.out ++ r)))

unfoldable pub joined : List ℕ → Answer (List Line)
joined s = carry idle 1 (kept_lines (physical s))

-- 1 and 2 before them, as in `Lines.lines`
unfoldable pub lines : Limits → List ℕ → Answer (List Line)
lines limits s = pick (ltb limits.text (length s)) (at_no_line 1) (pick (valid s) (joined s) (at_no_line 2))

unfoldable pub computes : Unit {0}
unfolding carry_one joined lines
    Rattle.meaning.specs.Lines.computes
computes = tt
