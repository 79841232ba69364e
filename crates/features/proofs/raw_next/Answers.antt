use Rattle.features.proofs.Stepping.{next_none, next_words, next_items}
use borrow.Author.Rules.{rules}
use Rattle.features.proofs.raw_next.Goals as goal

pub returns-in-Absent : goal.returns-in-Absent
returns-in-Absent c = search (rules, next_none)

pub returns-in-Words : goal.returns-in-Words
returns-in-Words c = search (rules, next_words)

pub returns-in-Items : goal.returns-in-Items
returns-in-Items c = search (rules, next_items)
