-- The original's parser has six more errors, of no number of 01's: an unknown table, something else where a table or
-- an array should be, an empty path, an array without elements, or whose last is no table. No text meets one of them.
-- So each refusal has a number, from 1 on, and number 0 always says that the text is accepted.
use Rattle.std.specs.Prelude.{ℕ, ◌≤◌, List, ◌≡◌}
use Rattle.meaning.specs.declared.Limits.{Limits}
use Rattle.meaning.specs.Refusal.{Unmet, unmet, Fault, number_of, refused}
use Rattle.meaning.specs.Document.{document}
use Rattle.meaning.specs.Plan.{Selection, plan}

-- whichever of the six, within any limits, for every text
abbrev pub NeverMet : Type 0
NeverMet = (e : Unmet) (lim : Limits) (text : List ℕ) (section place : ℕ)
    → document lim text ≡ refused (unmet e) section place → ⊥

-- of reading, of validation and of planning, which each begin with the one before
abbrev pub EachRefusalHasANumber : Type 0
EachRefusalHasANumber = (lim : Limits) (store tree : ℕ) (name text : List ℕ) (s : Selection)
    (f : Fault) (section place : ℕ) → plan lim store tree name s text ≡ refused f section place → 1 ≤ number_of f
