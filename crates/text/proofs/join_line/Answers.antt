use borrow.Author.Rules.{rules}
use Rattle.text.proofs.Joining.{gather_start, end_there, gather_on, over_here, whole_here, end_here}
use Rattle.text.proofs.join_line.Goals.{else-loop-at-test, then-loop-at-test+then-s-end}
use Rattle.text.proofs.join_line.Goals as goal

pub loop-at-init : goal.loop-at-init
loop-at-init c = search (rules, gather_start)

pub returns-in-Over : goal.returns-in-Over
returns-in-Over c = search (rules, over_here)

pub returns-in-Whole : goal.returns-in-Whole
returns-in-Whole c = search (rules, whole_here)

pub loop-at-preserved : goal.loop-at-preserved
loop-at-preserved c = search (rules, gather_on)

pub returns : goal.returns
returns c = elim c.loop-at-test.branch [ else-loop-at-test w ↦ search (rules, end_here) | then-loop-at-test+then-s-end w ↦ search (rules, end_there) ]
