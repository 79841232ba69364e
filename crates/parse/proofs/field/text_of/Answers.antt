use borrow.Author.Rules.{rules}
use Rattle.parse.proofs.Fielding.{text_is_lem, text_not}
use Rattle.parse.proofs.field.text_of.Goals as goal

pub returns-in-Absent : goal.returns-in-Absent
returns-in-Absent c = search (rules, text_is_lem)

pub returns-in-Text : goal.returns-in-Text
returns-in-Text c = search (rules, text_is_lem)

pub returns-in_default : goal.returns-in_default
returns-in_default c = search (rules, text_not)
