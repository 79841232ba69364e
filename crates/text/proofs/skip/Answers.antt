use borrow.Author.Rules.{rules}
use Rattle.text.proofs.Walking.{skip_start, skip_dark, skip_end, skip_out, skip_on, skip_found}
use Rattle.text.proofs.skip.Goals as goal

pub loop-p-init : goal.loop-p-init
loop-p-init c = search (rules, skip_start)

pub returns-else-not-surely_not_blank : goal.returns-else-not-surely_not_blank
returns-else-not-surely_not_blank c = search (rules, skip_dark)

pub returns-then-s-end : goal.returns-then-s-end
returns-then-s-end c = search (rules, skip_out)

pub returns-then-not-blank : goal.returns-then-not-blank
returns-then-not-blank c = search (rules, skip_found)

pub loop-p-preserved : goal.loop-p-preserved
loop-p-preserved c = search (rules, skip_on)

pub returns-after-loop-p : goal.returns-after-loop-p
returns-after-loop-p c = search (rules, skip_end)
