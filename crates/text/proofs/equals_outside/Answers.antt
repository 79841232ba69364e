use borrow.Author.Rules.{rules}
use Rattle.text.proofs.States.{outside_equals, never_inside}
use Rattle.text.proofs.equals_outside.Goals as goal

pub returns-then-eq : goal.returns-then-eq
returns-then-eq c = search (rules, outside_equals)

pub returns-else-eq : goal.returns-else-eq
returns-else-eq c = search (rules, never_inside)
