use borrow.Author.Rules.{rules}
use Rattle.parse.proofs.Fielding.{flag_is, flag_not}
use Rattle.parse.proofs.field.flag_of.Goals as goal

pub returns-in-Absent : goal.returns-in-Absent
returns-in-Absent c = search (rules, flag_is)

pub returns-in-Flag : goal.returns-in-Flag
returns-in-Flag c = search (rules, flag_is)

pub returns-in_default : goal.returns-in_default
returns-in_default c = search (rules, flag_not)
