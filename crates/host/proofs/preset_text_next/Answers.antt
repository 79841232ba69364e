use Rattle.host.proofs.Exports.{end_told, refused_told, line_told}
use borrow.Author.Rules.{rules}
use Rattle.host.proofs.preset_text_next.Goals as goal

pub returns-in-Ok-None : goal.returns-in-Ok-None
returns-in-Ok-None c = let e = rw c.in-Ok-None.field-0-is at c.in-Ok-None.is in search (rules, end_told)

pub returns-in-Ok-Some : goal.returns-in-Ok-Some
returns-in-Ok-Some c = let e = rw c.in-Ok-Some.field-0-is at c.in-Ok-Some.is in search (rules, line_told)

pub returns-in-Err : goal.returns-in-Err
returns-in-Err c = search (rules, refused_told)
