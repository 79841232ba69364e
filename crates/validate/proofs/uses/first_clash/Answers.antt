use borrow.Author.Rules.{rules}
use Rattle.validate.proofs.Settling.{agreed_start, agreed_end, agreed_on, rest_hit, rest_not, rest_on, rest_start}
use Rattle.validate.proofs.uses.first_clash.Goals as goal

pub loop-i-init : goal.loop-i-init
loop-i-init c = search (rules, agreed_start)

pub loop-j-init : goal.loop-j-init
loop-j-init c = search (rules, rest_start)

pub loop-j-preserved-then-not-share_package : goal.loop-j-preserved-then-not-share_package
loop-j-preserved-then-not-share_package c = search (rules, rest_not)

pub loop-j-preserved : goal.loop-j-preserved
loop-j-preserved c = search (rules, rest_on)

pub loop-i-preserved : goal.loop-i-preserved
loop-i-preserved c = search (rules, agreed_on)

pub returns-then-clash : goal.returns-then-clash
returns-then-clash c = search (rules, rest_hit)

pub returns : goal.returns
returns c = search (rules, agreed_end)
