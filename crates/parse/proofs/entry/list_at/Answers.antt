use borrow.Author.Rules.{rules}
use Rattle.parse.proofs.Entering.{list_one, list_other}
use Rattle.parse.proofs.entry.list_at.Goals as goal

pub returns-in-Absent : goal.returns-in-Absent
returns-in-Absent c = search (rules, list_other)

pub returns-in_default : goal.returns-in_default
returns-in_default c = search (rules, list_one)
