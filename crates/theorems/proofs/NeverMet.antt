-- No text is refused by an error without a number, or by number 0.
use Prim.Native.Nat.{◌≤◌}
use mathlib.Core.Path.{subst}
use Rattle.meaning.specs.Refusal.{Fault, numbered, unmet, number_of, Answer}
use Rattle.meaning.specs.Document.{Parsed}
use Rattle.meaning.specs.Plan.{Planned}
use Rattle.laws.specs.Never.{Numbered, Answers, never}
use Rattle.laws.specs.Numbers.{plan_numbered}
use Rattle.theorems.specs.NeverMet.{NeverMet, EachRefusalHasANumber}

pub never_met : NeverMet
never_met e lim text section place h = subst (λ (a : Answer Parsed). Answers a) h (never lim text)

-- the number of a fault that has one
pub number_some : (f : Fault) → Numbered f → 1 ≤ number_of f
number_some (numbered n) h = h
number_some (unmet e) h = absurd h

pub each_numbered : EachRefusalHasANumber
each_numbered lim store tree name text s f section place e =
    number_some f (subst (λ (a : Answer Planned). Answers a) e (plan_numbered lim store tree name text s).numbered)
