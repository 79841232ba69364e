use Rattle.host.proofs.Viewing.{bytes_told, fixed_told}
use borrow.Author.Rules.{rules}
use Rattle.host.proofs.records.bytes_of.Goals as goal

pub returns-in-Absent : goal.returns-in-Absent
returns-in-Absent c = search (rules, bytes_told)

pub returns-in-Stored : goal.returns-in-Stored
returns-in-Stored c = search (rules, bytes_told)

pub returns-in-Lent : goal.returns-in-Lent
returns-in-Lent c = search (rules, bytes_told)

pub returns-in-Fixed : goal.returns-in-Fixed
returns-in-Fixed c = search (rules, fixed_told)

pub returns-in-WithAic : goal.returns-in-WithAic
returns-in-WithAic c = search (rules, bytes_told)
