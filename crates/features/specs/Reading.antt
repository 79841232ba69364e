-- The words of a string, one at a time.
use Rattle.std.specs.Prelude.{ℕ, ◌+◌, List, ltb, drop, Option, Some, None}
use Rattle.meaning.specs.Base.{pick}
use Rattle.features.specs.Gaps.{gaps, run}
use Rattle.features.specs.declared.reader.Word.{Word}
use Rattle.features.specs.declared.reader.Reader.{Reader}
use Rattle.features.specs.declared.reader.Step.{Step}

-- the bytes from a place up to the next gap, where there are any
abbrev pub up_to : List ℕ → ℕ → Option Word
up_to s a = pick (ltb a (a + run (drop a s))) (Some (record { from = a; to = a + run (drop a s) })) None

-- the first word from a place on
unfoldable pub word_at : List ℕ → ℕ → Option Word
word_at s at = up_to s (at + gaps (drop at s))

-- the place after a word that was met from a place on; of the end, that place
abbrev pub after_word : Option Word → ℕ → ℕ
after_word None at = at
after_word (Some w) at = w.to

-- the word that a reader stands before, and the reader after it
abbrev pub stepped : Reader → Step
stepped d =
    let word = word_at d.words.now d.at in
    record { word = word; rest = record { words = d.words; at = after_word word d.at } }
