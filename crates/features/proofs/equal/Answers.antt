use borrow.Author.Rules.{rules}
use Rattle.features.proofs.Comparing.{alike_equal}
use Rattle.features.proofs.equal.Goals as goal

pub returns-then-same_as_written : goal.returns-then-same_as_written
returns-then-same_as_written c = search (rules, alike_equal)
