-- Runs of gaps and of other bytes at the head of a text.
use Rattle.std.specs.Prelude.{ℕ, suc, List, [], ◌∷◌}
use Rattle.meaning.specs.Base.{pick}
use Rattle.meaning.specs.Features.{gap}

-- how many gaps come first
abbrev pub gaps : List ℕ → ℕ
gaps [] = 0
gaps (b ∷ s) = pick (gap b) (suc (gaps s)) 0

-- how many other bytes come first
abbrev pub run : List ℕ → ℕ
run [] = 0
run (b ∷ s) = pick (gap b) 0 (suc (run s))
