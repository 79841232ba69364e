-- The judge of planning: "Reading, validating and planning each start from the text, so 80 and 81 empty the rooms too."
use Rattle.std.specs.Prelude.{ℕ, List}
use Rattle.parse.specs.declared.Refusal.{Refusal}
use Rattle.parse.specs.Refusals.{earlier}
use Rattle.validate.specs.Validated.{validating}
use Rattle.plan.specs.Choices.{choice, fault}

-- what is read, the rules, and then the selection
abbrev pub planning : List ℕ → ℕ → List ℕ → List ℕ → List ℕ → ℕ → Refusal
planning name app key tree store made = earlier (validating name tree store made) (fault tree store made (choice tree store made app key))
