use borrow.Author.Rules.{rules}
use Rattle.plan.proofs.Stemming.{dot_start, dot_hit, dot_on, dot_none}
use Rattle.plan.proofs.stem.last_dot.Goals as goal

pub loop-i-init : goal.loop-i-init
loop-i-init c = search (rules, dot_start)

pub returns-then-s-i-eq46 : goal.returns-then-s-i-eq46
returns-then-s-i-eq46 c = search (rules, dot_hit)

pub loop-i-preserved : goal.loop-i-preserved
loop-i-preserved c = search (rules, dot_on)

pub returns : goal.returns
returns c = search (rules, dot_none)
