use borrow.Author.Rules.{rules}
use Rattle.validate.specs.Clashes.{uses_package}
use Rattle.validate.proofs.uses.uses_package.Goals as goal

pub returns-then-same_text : goal.returns-then-same_text
unfolding uses_package
returns-then-same_text c = search rules

pub returns-else-same_text : goal.returns-else-same_text
unfolding uses_package
returns-else-same_text c = search rules
