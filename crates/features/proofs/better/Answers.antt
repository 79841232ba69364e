use Rattle.features.proofs.Choosing.{better_it, better_best, better_not}
use borrow.Author.Rules.{rules}
use Rattle.features.proofs.better.Goals as goal

pub returns-then-comes_before : goal.returns-then-comes_before
returns-then-comes_before c = search (rules, better_it)

pub returns-then-comes_after : goal.returns-then-comes_after
returns-then-comes_after c = search (rules, better_best)

pub returns : goal.returns
returns c = search (rules, better_not)
