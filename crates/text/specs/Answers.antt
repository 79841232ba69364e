-- What the answers of `text` say in 01's words.
use Rattle.std.specs.Prelude.{ℕ, ◌+◌, ◌≤◌, ◌<◌, List, ◌≡◌, ltb, length, drop, Result, Ok, Err}
use Rattle.meaning.specs.declared.Limits.{Limits}
use Rattle.meaning.specs.Base.{pick}
use Rattle.meaning.specs.Numbered.{number}
use Rattle.meaning.specs.Refusal.{Answer, accepted, accepted_then, at_line}
use Rattle.meaning.specs.Utf8.{valid}
use Rattle.meaning.specs.Lines as lines
use Rattle.text.specs.declared.Laid.{Laid}
use Rattle.text.specs.declared.AtLine.{AtLine}
use Rattle.text.specs.Laid.{laid, over, lines_of}

-- 01's number, section and place of each answer; 1 and 2 are told at line 0, which is no line
abbrev pub answer_of : {X : Type 0} → Result X AtLine → Answer X
answer_of (Ok x) = accepted x
answer_of (Err u) = at_line (number u.refused) u.line

-- how many
abbrev pub counted : Answer (List lines.Line) → Answer ℕ
counted j = accepted_then j (λ ls. accepted (length ls))

-- how many, in how many bytes
abbrev pub measured : ℕ → Answer (List lines.Line) → Answer Laid
measured used j = accepted_then j (λ ls. accepted (record { lines = length ls; used = used }))

-- no count and no line number is over k
abbrev pub Most : ℕ → Result ℕ AtLine → Type 0
Most k (Ok n) = n ≤ k
Most k (Err u) = u.line ≤ k

-- a place between joined lines: there is no more than a line to each byte before it
pub record Between (s : List ℕ) (at line : ℕ) : Type 0 where
  pub high : at ≤ length s
  pub number : line ≤ at + 1
  pub small : length s < 4294967295

-- what `check_joined` leaves of a laid text from such a place on
pub record Checks (s : List ℕ) (at line : ℕ) (r : Result ℕ AtLine) : Type 0 where
  pub says : answer_of r ≡ counted (lines.join lines.closed line (lines_of (drop at s)))
  pub most : Most (length s + 1) r

-- the same of a reading
abbrev pub Small : ℕ → Result Laid AtLine → Type 0
Small k (Ok l) = (l.lines ≤ k) × (l.used ≤ k)
Small k (Err u) = u.line ≤ k

-- the scratch takes the longest text and the LF that its last line may lack
pub record Roomy (limits : Limits) (room : List ℕ) : Type 0 where
  pub fits : limits.text < length room
  pub small : limits.text < 4294967294

-- what `lines` leaves: its answer, and the scratch, which 1 and 2 leave alone
pub record Reads (limits : Limits) (s room room' : List ℕ) (r : Result Laid AtLine) : Type 0 where
  pub says : answer_of r ≡ measured (length (laid s)) (lines.lines limits s)
  pub small : Small (limits.text + 2) r
  pub left : room' ≡ pick (ltb limits.text (length s)) room (pick (valid s) (over (laid s) room) room)
