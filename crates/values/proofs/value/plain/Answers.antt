use Rattle.values.proofs.Making.{plain_true, plain_false, plain_int, plain_wrong}
use borrow.Author.Rules.{rules}
use Rattle.values.proofs.value.plain.Goals as goal

pub returns-then-same : goal.returns-then-same
returns-then-same c = search (rules, plain_true)

pub returns-then-same-2 : goal.returns-then-same-2
returns-then-same-2 c = search (rules, plain_false)

pub returns-in-Ok : goal.returns-in-Ok
returns-in-Ok c = search (rules, plain_int)

pub returns-in-Err : goal.returns-in-Err
returns-in-Err c = search (rules, plain_wrong)
