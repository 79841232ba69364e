use borrow.Author.Rules.{rules}
use Rattle.validate.specs.Clashes.{clash}
use Rattle.validate.proofs.uses.clash.Goals as goal

pub returns-then-use_differs : goal.returns-then-use_differs
unfolding clash
returns-then-use_differs c = search rules

pub returns-else-use_differs : goal.returns-else-use_differs
unfolding clash
returns-else-use_differs c = search rules
