use Rattle.values.proofs.Making.{make_full, make_put}
use borrow.Author.Rules.{rules}
use Rattle.values.proofs.value.make.Goals as goal

pub returns-then-limit-st : goal.returns-then-limit-st
returns-then-limit-st c = search (rules, make_full)

pub returns : goal.returns
returns c = search (rules, make_put)
