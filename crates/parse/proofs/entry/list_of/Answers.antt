use borrow.Author.Rules.{rules}
use Rattle.parse.proofs.Entering.{list_is, list_not}
use Rattle.parse.proofs.entry.list_of.Goals as goal

pub returns-in-Absent : goal.returns-in-Absent
returns-in-Absent c = search (rules, list_is)

pub returns-in-Array : goal.returns-in-Array
returns-in-Array c = search (rules, list_is)

pub returns-in_default : goal.returns-in_default
returns-in_default c = search (rules, list_not)
