use Rattle.host.proofs.Viewing.{list_told}
use borrow.Author.Rules.{rules}
use Rattle.host.proofs.records.list_of.Goals as goal

pub returns-in-Absent : goal.returns-in-Absent
returns-in-Absent c = search (rules, list_told)

pub returns-in-Words : goal.returns-in-Words
returns-in-Words c = search (rules, list_told)

pub returns-in-Items : goal.returns-in-Items
returns-in-Items c = search (rules, list_told)
