-- Bytes that need no escape: what a search for the others passes over.
use Rattle.std.specs.Prelude.{ℕ, Bool, ltb}
use Rattle.meaning.specs.Quoting.{letter_for}

-- a byte that is written as an escape
unfoldable pub escapes? : ℕ → Bool
escapes? b = ltb 0 (letter_for b)
