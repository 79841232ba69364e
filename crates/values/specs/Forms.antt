-- What a line is, as the code tells it: the parts that are read on are parts of the line.
use Rattle.std.specs.Prelude.{ℕ, suc, ◌-◌, ◌≤◌, ◌<◌, List, ◌≡◌, length, take, drop, Option, Some, None}
use Rattle.meaning.specs.Document as meant
use Rattle.values.specs.declared.form.Form.{Form}
use Rattle.values.specs.declared.form.Form.TheVariants.{Pushes, Heads, Sets}

abbrev pub form_of : List ℕ → Option Form → meant.Form
form_of l (Some Pushes) = meant.pushes (take (length l - 4) (drop 2 l))
form_of l (Some Heads) = meant.heads (take (length l - 2) (drop 1 l))
form_of l (Some (Sets at)) = meant.sets (take at l) (drop (suc at) l)
form_of l None = meant.neither

-- the brackets and the `=` stand within the line
abbrev pub Inside : List ℕ → Option Form → Type 0
Inside l (Some Pushes) = 4 ≤ length l
Inside l (Some Heads) = 2 ≤ length l
Inside l (Some (Sets at)) = at < length l
Inside l None = Unit

pub record Formed (l : List ℕ) (r : Option Form) : Type 0 where
  pub is : form_of l r ≡ meant.form l
  pub inside : Inside l r
