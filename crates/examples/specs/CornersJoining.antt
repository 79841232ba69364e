-- Corners of joining by a count that is carried (W-205), by computation. `⏎` stands for LF.
use Rattle.std.specs.Prelude.{ℕ, List, [], ◌∷◌, ◌≡◌, refl}
use Rattle.meaning.specs.Base.{ascii}
use Rattle.meaning.specs.Limits.{of01}
use Rattle.meaning.specs.Refusal.{Answer, accepted, at_line}
use Rattle.meaning.specs.Lines.{Line}
use Rattle.meaning.specs.Carried.{lines, computes}
use Rattle.examples.specs.Samples.{◌⏎◌}

abbrev says : List ℕ → Answer (List Line)
says s = lines of01 s

-- all of a text is one joined line
abbrev one : List ℕ → Answer (List Line)
one s = accepted (record { at = 1; text = s } ∷ [])

-- the string state is carried: in `a = ["x⏎]"]` the first `]` stands in a string; seen from its own line it would be one
-- `]` outside and one inside
state_carried : says (ascii "a = [\"x" ⏎ ascii "]\"]") ≡ one (ascii "a = [\"x" ⏎ ascii "]\"]")
unfolding computes
state_carried = refl

-- so are the brackets: `a = [[⏎]⏎]` is open after its second line, and `a = [⏎]]` has one too many
brackets_carried : says (ascii "a = [[" ⏎ ascii "]" ⏎ ascii "]") ≡ one (ascii "a = [[" ⏎ ascii "]" ⏎ ascii "]")
unfolding computes
brackets_carried = refl

surplus_carried : says (ascii "a = [" ⏎ ascii "]]") ≡ at_line 3 1
unfolding computes
surplus_carried = refl

-- the joining LF is counted: in `a = "x\⏎"` the backslash hides it, and the quote ends the string
lf_counted : says (ascii "a = \"x\\" ⏎ ascii "\"") ≡ one (ascii "a = \"x\\" ⏎ ascii "\"")
unfolding computes
lf_counted = refl

-- what follows a cut `#` is not: `a = [ # ]⏎] # ["`
comment_uncounted : says (ascii "a = [ # ]" ⏎ ascii "] # [\"") ≡ one (ascii "a = [ " ⏎ ascii "] ")
unfolding computes
comment_uncounted = refl

-- a comment is found with a string state of its own, started afresh on each line: in `a = "x⏎y # z⏎"` it is cut though
-- the joined line has a string open there
own_state : says (ascii "a = \"x" ⏎ ascii "y # z" ⏎ ascii "\"") ≡ one (ascii "a = \"x" ⏎ ascii "y " ⏎ ascii "\"")
unfolding computes
own_state = refl

-- the count starts afresh with the next joined line: `a = [⏎]⏎b = "⏎` is open at line 3
next_afresh : says (ascii "a = [" ⏎ ascii "]" ⏎ ascii "b = \"" ⏎ []) ≡ at_line 4 3
unfolding computes
next_afresh = refl
