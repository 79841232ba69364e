use borrow.Author.Rules.{rules}
use Rattle.validate.specs.Clashes.{share_package}
use Rattle.validate.proofs.uses.share_package.Goals as goal

pub returns-then-uses_package : goal.returns-then-uses_package
unfolding share_package
returns-then-uses_package c = search rules

pub returns-else-uses_package : goal.returns-else-uses_package
unfolding share_package
returns-else-uses_package c = search rules
