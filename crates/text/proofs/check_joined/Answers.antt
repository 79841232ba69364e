use borrow.Author.Rules.{rules}
use Rattle.text.proofs.Checking.{check_start, none_left, refused_told, check_on}
use Rattle.text.proofs.check_joined.Goals as goal

pub loop-joined-init : goal.loop-joined-init
loop-joined-init c = search (rules, check_start)

pub returns-in_err-joined : goal.returns-in_err-joined
returns-in_err-joined c = search (rules, refused_told)

pub loop-joined-preserved : goal.loop-joined-preserved
loop-joined-preserved c = search (rules, check_on)

pub returns : goal.returns
returns c = search (rules, none_left)
