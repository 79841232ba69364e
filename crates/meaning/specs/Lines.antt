-- "From text to tree": physical lines, comments, joining; refusals 1 to 4.
use Rattle.std.specs.Prelude.{ℕ, ◌+◌, ◌-◌, Bool, true, false, List, [], ◌∷◌, ◌++◌, eqb, ltb, length, take}
use Rattle.meaning.specs.declared.Limits.{Limits}
use Rattle.meaning.specs.declared.Fate.{Fate}
use Rattle.meaning.specs.declared.Fate.TheVariants.{Over, Unended, Whole}
use Rattle.meaning.specs.Base.{pick, nil?, final, cut}
use Rattle.meaning.specs.Bytes.{line_feed, carriage_return, hash}
use Rattle.meaning.specs.Refusal.{Answer, accepted, accepted_then, at_line, at_no_line}
use Rattle.meaning.specs.Utf8.{valid}
use Rattle.meaning.specs.Space.{blank}
use Rattle.meaning.specs.declared.StringState.{StringState}
use Rattle.meaning.specs.declared.StringState.TheVariants.{Outside, Inside, Escaped}
use Rattle.meaning.specs.Quote.{Scan, fresh, scan, up_to}

-- "Lines end at LF or CRLF; a lone CR is kept": the CR before an LF goes
unfoldable pub drop_cr : List ℕ → List ℕ
drop_cr l = pick (eqb (final l) carriage_return) (take (length l - 1) l) l

-- the parts between LFs are lines; the last has no LF after it, and is no line where it is empty
abbrev pub ended : List (List ℕ) → List (List ℕ)
ended [] = []
ended (l ∷ []) = pick (nil? l) [] (l ∷ [])
ended (l ∷ m ∷ ls) = drop_cr l ∷ ended (m ∷ ls)

unfoldable pub physical : List ℕ → List (List ℕ)
physical s = ended (cut line_feed s)

-- "A comment, from the first `#` outside a string, is cut per physical line, with string state started afresh
-- each line"
unfoldable pub kept : List ℕ → List ℕ
kept l = take (up_to hash Outside l) l

abbrev pub kept_lines : List (List ℕ) → List (List ℕ)
kept_lines [] = []
kept_lines (l ∷ ls) = kept l ∷ kept_lines ls

-- a joined line and the physical line, from 1, where it starts
pub record Line : Type 0 where
  pub at : ℕ
  pub text : List ℕ

-- nothing open, or a line that goes on: where it starts and its text so far
pub data Pending : Type 0 where
  closed : Pending
  open' : ℕ → List ℕ → Pending

-- what one physical line does: the lines it ends, and what is open after it
pub record Step : Type 0 where
  pub out : List Line
  pub pending : Pending

-- "quotes are closed"
abbrev pub quotes_closed : StringState → Bool
quotes_closed Outside = true
quotes_closed Inside = false
quotes_closed Escaped = false

-- "until brackets outside strings net to zero and quotes are closed";
-- 3: "more `]` than `[` after a physical line is joined"
unfoldable pub fate : Scan → Fate
fate c =
    pick (ltb c.opens c.closes) Over
    (pick (ltb c.closes c.opens) Unended
    (pick (quotes_closed c.state) Whole Unended))

-- a fault is told where the joined line starts
abbrev pub settle : ℕ → List ℕ → Fate → Answer Step
settle at t Over = at_line 3 at
settle at t Unended = accepted (record { out = []; pending = open' at t })
settle at t Whole = accepted (record { out = record { at = at; text = t } ∷ []; pending = closed })

-- a line with its text so far: brackets and quotes are counted over the joined text
abbrev pub settled : ℕ → List ℕ → Answer Step
settled at t = settle at t (fate (scan fresh t))

-- physical line n, without its comment. "Lines join with LF"; "A blank line is skipped, but joined where a line is
-- open."
unfoldable pub join_one : Pending → ℕ → List ℕ → Answer Step
join_one closed n l = pick (blank l) (accepted (record { out = []; pending = closed })) (settled n l)
join_one (open' at t) n l = settled at (t ++ (line_feed ∷ l))

-- 4: "text ends with a line still open"
abbrev pub at_close : Pending → Answer (List Line)
at_close closed = accepted []
at_close (open' at t) = at_line 4 at

-- the joined lines of kept lines, the first of which is number n
abbrev pub join : Pending → ℕ → List (List ℕ) → Answer (List Line)
join p n [] = at_close p
join p n (l ∷ ls) =
    accepted_then (join_one p n l) (λ s. accepted_then (join s.pending (n + 1) ls) (λ r. accepted (s.out ++ r)))

-- "then 3 and 4 over the whole text before any line is read"
unfoldable pub joined : List ℕ → Answer (List Line)
joined s = join closed 1 (kept_lines (physical s))

-- "Order: 17, 1, 2; then 3 and 4": 1 is text too long, 2 is not UTF-8
unfoldable pub lines : Limits → List ℕ → Answer (List Line)
lines limits s = pick (ltb limits.text (length s)) (at_no_line 1) (pick (valid s) (joined s) (at_no_line 2))

unfoldable pub computes : Unit {0}
unfolding drop_cr physical kept fate join_one joined lines
    Rattle.meaning.specs.Space.computes
    Rattle.meaning.specs.Quote.computes
computes = tt
