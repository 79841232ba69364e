-- What stands outside a string, and the brackets there. "In a string a backslash hides the next character."
use Rattle.std.specs.Prelude.{ℕ, suc, ◌+◌, Bool, false, List, [], ◌∷◌, eqb}
use Rattle.meaning.specs.declared.StringState.{StringState}
use Rattle.meaning.specs.declared.StringState.TheVariants.{Outside, Inside, Escaped}
pub use Rattle.meaning.specs.declared.Scan.{Scan}
use Rattle.meaning.specs.Base.{pick}
use Rattle.meaning.specs.Bytes.{quote_mark, backslash, open_bracket, close_bracket}

-- the state after a byte; hiding a character's first byte hides the character, since its other bytes are no quotes
unfoldable pub state_after : StringState → ℕ → StringState
state_after Outside b = pick (eqb b quote_mark) Inside Outside
state_after Inside b = pick (eqb b backslash) Escaped (pick (eqb b quote_mark) Outside Inside)
state_after Escaped b = Inside

-- b is c, outside a string
unfoldable pub equals_outside : ℕ → StringState → ℕ → Bool
equals_outside c Outside b = eqb b c
equals_outside c Inside b = false
equals_outside c Escaped b = false

-- how many bytes stand before the first c outside a string, or in all where there is none
abbrev pub up_to : ℕ → StringState → List ℕ → ℕ
up_to c state [] = 0
up_to c state (b ∷ s) = pick (equals_outside c state b) 0 (suc (up_to c (state_after state b) s))

-- a line starts outside strings, with no brackets
abbrev pub fresh : Scan
fresh = record { state = Outside; opens = 0; closes = 0 }

-- n and, where b is c outside a string, one more
unfoldable pub tally : ℕ → StringState → ℕ → ℕ → ℕ
tally c state b n = pick (equals_outside c state b) (n + 1) n

-- the string state, and the brackets `[` and `]` outside strings, after one more byte
unfoldable pub step : Scan → ℕ → Scan
step c b = record {
  state = state_after c.state b;
  opens = tally open_bracket c.state b c.opens;
  closes = tally close_bracket c.state b c.closes;
}

abbrev pub scan : Scan → List ℕ → Scan
scan c [] = c
scan c (b ∷ s) = scan (step c b) s

unfoldable pub computes : Unit {0}
unfolding state_after equals_outside tally step
computes = tt
