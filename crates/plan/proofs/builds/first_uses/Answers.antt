use borrow.Author.Rules.{rules}
use Rattle.plan.proofs.Building.{firsts_absent, firsts_again, firsts_end, firsts_on, firsts_start, unused_on, unused_start}
use Rattle.plan.proofs.builds.first_uses.Goals as goal

pub next-init : goal.next-init
next-init c = search (rules, firsts_start)

pub next-preserved-then-not-is_given : goal.next-preserved-then-not-is_given
next-preserved-then-not-is_given c = search (rules, firsts_absent)

pub next-preserved-then-same_text : goal.next-preserved-then-same_text
next-preserved-then-same_text c = search (rules, firsts_again)

pub loop-j-init : goal.loop-j-init
loop-j-init c = search (rules, unused_start)

pub loop-j-preserved : goal.loop-j-preserved
loop-j-preserved c = search (rules, unused_on)

pub next-preserved : goal.next-preserved
next-preserved c = search (rules, firsts_on)

pub returns : goal.returns
returns c = search (rules, firsts_end)
