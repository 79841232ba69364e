use borrow.Author.Rules.{rules}
use Rattle.parse.proofs.Fronting.{table_is, table_not, table_there}
use Rattle.parse.proofs.front.table_at.Goals as goal

pub returns-in-Absent : goal.returns-in-Absent
returns-in-Absent c = search (rules, table_is)

pub returns-in-Table : goal.returns-in-Table
returns-in-Table c = search (rules, table_there)

pub returns-in_default : goal.returns-in_default
returns-in_default c = search (rules, table_not)
