use borrow.Author.Rules.{rules}
use Rattle.parse.proofs.Entering.{keys_are, keys_not}
use Rattle.parse.proofs.entry.keys_of.Goals as goal

pub returns-in-Absent : goal.returns-in-Absent
returns-in-Absent c = search (rules, keys_are)

pub returns-in-Table : goal.returns-in-Table
returns-in-Table c = search (rules, keys_are)

pub returns-in_default : goal.returns-in_default
returns-in_default c = search (rules, keys_not)
