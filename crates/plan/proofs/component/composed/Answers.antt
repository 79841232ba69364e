use borrow.Author.Rules.{rules}
use Rattle.plan.proofs.Composing.{composed_after, composed_here, composed_before}
use Rattle.plan.proofs.component.composed.Goals as goal

pub returns-then-i-at : goal.returns-then-i-at
returns-then-i-at c = search (rules, composed_before)

pub returns-then-i-at-2 : goal.returns-then-i-at-2
returns-then-i-at-2 c = search (rules, composed_here)

pub returns : goal.returns
returns c = search (rules, composed_after)
