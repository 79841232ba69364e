use borrow.Author.Rules.{rules}
use Rattle.features.proofs.Choosing.{read_absent, read_words, read_items, read_not}
use Rattle.features.proofs.read.Goals as goal

pub returns-in-Absent : goal.returns-in-Absent
returns-in-Absent c = search (rules, read_absent)

pub returns-in-Text : goal.returns-in-Text
returns-in-Text c = search (rules, read_words)

pub returns-in-Array : goal.returns-in-Array
returns-in-Array c = search (rules, read_items)

pub returns-in_default : goal.returns-in_default
returns-in_default c = search (rules, read_not)
