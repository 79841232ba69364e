-- What the exports of the text layer say, in the words of the definitions.
use Rattle.std.specs.Prelude.{ℕ, List, ◌≡◌, ltb, length, None, Some, Ok, Err}
use Rattle.meaning.specs.Base.{pick}
use Rattle.meaning.specs.Limits.{of01}
use Rattle.meaning.specs.Numbered.{number}
use Rattle.meaning.specs.Refusal.{Answer, accepted, refused, number_of, at_no_line}
use Rattle.meaning.specs.Rooms.{room_after}
use Rattle.meaning.specs.Lines as meant
use Rattle.chars.specs.declared.Span as chars
use Rattle.text.specs.declared.Laid.{Laid}
use Rattle.text.specs.Laid.{laid}
use Rattle.text.specs.Answers.{measured}
use Rattle.text.specs.Walk.{Next}
use Rattle.host.specs.declared.Span.{Span}
use Rattle.host.specs.declared.Scanned.{Scanned}
use Rattle.meaning.specs.declared.Scan.{Scan}
use Rattle.meaning.specs.declared.StringState.{StringState}
use Rattle.meaning.specs.declared.StringState.TheVariants.{Outside, Inside, Escaped}
use Rattle.host.specs.declared.Lines.{Lines}
use Rattle.host.specs.declared.Line.{Line}

-- a part, as the crate below says it
abbrev pub span_of : Span → chars.Span
span_of r = record { from = r.from; end = r.end }

-- a string state by a number
abbrev pub state_number : StringState → ℕ
state_number Outside = 0
state_number Inside = 1
state_number Escaped = 2

-- a scan, as it is handed out
abbrev pub scanned : Scan → Scanned
scanned c = record { state = state_number c.state; opens = c.opens; closes = c.closes }

-- number 0 and the counts of an accepted text; or 01's number, section and place, and no counts
abbrev pub lines_of : Answer Laid → Lines
lines_of (accepted c) = record { number = 0; section = 0; place = 0; lines = c.lines; used = c.used }
lines_of (refused f s p) = record { number = number_of f; section = s; place = p; lines = 0; used = 0 }

-- a refusal of the text at a line
abbrev pub refused_at : ℕ → ℕ → Lines
refused_at n p = record { number = n; section = 0; place = p; lines = 0; used = 0 }

-- 17, "a lent room is too small", comes before 1 to 4
abbrev pub judged : List ℕ → List ℕ → Answer Laid
judged s room = pick (ltb (length room) 32769) (at_no_line 17) (measured (length (laid s)) (meant.lines of01 s))

-- an accepted text leaves its laid lines
pub record Exported (s room room' : List ℕ) (r : Lines) : Type 0 where
  pub says : r ≡ lines_of (judged s room)
  pub left : room' ≡ room_after (λ c. laid s) (length room) (judged s room)

-- there is no line, for the reason that the kind tells
abbrev pub no_line : ℕ → ℕ → Line
no_line kind line = record { kind = kind; line = line; from = 0; end = 0; next = 0; next_line = 0 }

-- kind 0: no line is left; 1: a joined line; 3 and 4: that refusal
abbrev pub line_of : Next → Line
line_of (Ok None) = no_line 0 0
line_of (Ok (Some l)) = record { kind = 1; line = l.line; from = l.from; end = l.end; next = l.next.at; next_line = l.next.line }
line_of (Err u) = no_line (number u.refused) u.line
