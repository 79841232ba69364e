use borrow.Author.Rules.{rules}
use Rattle.parse.proofs.Entering.{table_is, table_not}
use Rattle.parse.proofs.entry.entry_table.Goals as goal

pub returns-in-Table : goal.returns-in-Table
returns-in-Table c = search (rules, table_is)

pub returns-in_default : goal.returns-in_default
returns-in_default c = search (rules, table_not)
