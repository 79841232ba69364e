use borrow.Author.Rules.{rules}
use Rattle.validate.specs.Clashes.{use_differs}
use Rattle.validate.proofs.uses.use_differs.Goals as goal

pub returns-then-differ : goal.returns-then-differ
unfolding use_differs
returns-then-differ c = search rules

pub returns-else-differ : goal.returns-else-differ
unfolding use_differs
returns-else-differ c = search rules
