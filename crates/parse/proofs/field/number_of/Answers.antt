use borrow.Author.Rules.{rules}
use Rattle.parse.proofs.Fielding.{number_is, number_not}
use Rattle.parse.proofs.field.number_of.Goals as goal

pub returns-in-Absent : goal.returns-in-Absent
returns-in-Absent c = search (rules, number_is)

pub returns-in-Number : goal.returns-in-Number
returns-in-Number c = search (rules, number_is)

pub returns-in_default : goal.returns-in_default
returns-in_default c = search (rules, number_not)
