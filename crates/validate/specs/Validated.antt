-- The judge of validation: "fields; then validation".
use Rattle.std.specs.Prelude.{ℕ, List}
use Rattle.parse.specs.declared.Refusal.{Refusal}
use Rattle.parse.specs.Refusals.{earlier}
use Rattle.parse.specs.Verdict.{reading}
use Rattle.validate.specs.Faults as faults

-- what is read, and then the rules
abbrev pub validating : List ℕ → List ℕ → List ℕ → ℕ → Refusal
validating name tree store made = earlier (reading name tree store made) (faults.verdict tree store made name)
