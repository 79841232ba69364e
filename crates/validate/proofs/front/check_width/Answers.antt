use borrow.Author.Rules.{rules}
use Rattle.meaning.specs.Rules.{width_fault}
use Rattle.validate.proofs.Fronting.{width_none, width_same, width_other}
use Rattle.validate.proofs.front.check_width.Goals as goal

pub returns-in-None : goal.returns-in-None
returns-in-None c = search (rules, width_none)

pub returns-in-Some : goal.returns-in-Some
returns-in-Some c = search (rules, width_same)

pub returns-in-Some-2 : goal.returns-in-Some-2
unfolding width_fault
returns-in-Some-2 c = search (rules, width_other)
