-- Bytes that a pass over a text need not look at one by one.
use Rattle.std.specs.Prelude.{ℕ, ◌+◌, ◌/◌, ◌%◌, ◌^◌, ◌≤◌, Bool, false, List, [], ◌∷◌, ◌≡◌, eqb, length, take, drop}
use Rattle.meaning.specs.declared.StringState.{StringState}
use Rattle.meaning.specs.declared.StringState.TheVariants.{Outside, Inside}
use Rattle.meaning.specs.Quote.{state_after, equals_outside, up_to}

-- in string state st the byte b ends no line, opens and closes nothing
pub record Quiet (st : StringState) (b : ℕ) : Type 0 where
  pub line : b ≡ 10 → ⊥
  pub same : state_after st b ≡ st
  pub opens : equals_outside 91 st b ≡ false
  pub closes : equals_outside 93 st b ≡ false

-- the bit of b's number modulo 64 is up in a set of 64
abbrev pub marked : ℕ → ℕ → Bool
marked set b = eqb (set / 2 ^ (b % 64) % 2) 1

abbrev pub Quiets : StringState → List ℕ → Type 0
Quiets st [] = Unit
Quiets st (b ∷ s) = Quiet st b × Quiets st s

-- each of the first r bytes is such
pub record Run (st : StringState) (s : List ℕ) (r : ℕ) : Type 0 where
  pub fits : r ≤ length s
  pub all : Quiets st (take r s)

-- s stands inside a string, which ends with its first r bytes, or with all of them: the bytes after them stand outside,
-- whatever is looked for
pub record StringEnd (s : List ℕ) (r : ℕ) : Type 0 where
  pub fits : r ≤ length s
  pub is : (c : ℕ) → up_to c Inside s ≡ r + up_to c Outside (drop r s)
