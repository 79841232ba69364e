use borrow.Author.Rules.{rules}
use Rattle.validate.specs.Clashes.{package_beyond}
use Rattle.validate.proofs.uses.package_beyond.Goals as goal

pub returns-then-uses_package : goal.returns-then-uses_package
unfolding package_beyond
returns-then-uses_package c = search rules

pub returns : goal.returns
unfolding package_beyond
returns c = search rules
