use borrow.Author.Rules.{rules}
use Rattle.plan.proofs.Composing.{left_whole, left_without}
use Rattle.plan.proofs.component.head_left.Goals as goal

pub returns-then-is_given : goal.returns-then-is_given
returns-then-is_given c = search (rules, left_whole)

pub returns : goal.returns
returns c = search (rules, left_without)
