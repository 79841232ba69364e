use borrow.Author.Rules.{rules}
use Rattle.layout.proofs.Marking.{marks_start, marks_on, marks_end}
use Rattle.layout.proofs.marks_of.Goals as goal

pub loop-i-init : goal.loop-i-init
loop-i-init c = search (rules, marks_start)

pub loop-i-preserved : goal.loop-i-preserved
loop-i-preserved c = search (rules, marks_on)

pub returns : goal.returns
returns c = search (rules, marks_end)
