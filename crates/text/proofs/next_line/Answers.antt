use borrow.Author.Rules.{rules}
use Rattle.text.proofs.Walking.{at_end, none_there, refused_there, line_there}
use Rattle.text.proofs.next_line.Goals as goal

pub returns-then-s-from : goal.returns-then-s-from
returns-then-s-from c = search (rules, at_end)

pub returns-in-Ok-None : goal.returns-in-Ok-None
returns-in-Ok-None c = search (rules, none_there)

pub returns-in-Ok-Some : goal.returns-in-Ok-Some
returns-in-Ok-Some c = line_there _ _ _ _ c.skip-from.ensures c.if-s-from.false _ c.join_line.ensures c.in-Ok-Some.joined (rw c.in-Ok-Some.field-0-is at c.in-Ok-Some.is)

pub returns-in-Err : goal.returns-in-Err
returns-in-Err c = search (rules, refused_there)
