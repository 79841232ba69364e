use borrow.Author.Rules.{rules}
use Rattle.plan.proofs.Choosing.{seek_on, seek_none, seek_hit, seek_end}
use Rattle.plan.proofs.choice.declared.Goals as goal

pub returns-in_default : goal.returns-in_default
returns-in_default c = search (rules, seek_none)

pub returns-then-has_key : goal.returns-then-has_key
returns-then-has_key c = search (rules, seek_hit)

pub loop-i-preserved : goal.loop-i-preserved
loop-i-preserved c = search (rules, seek_on)

pub returns : goal.returns
returns c = search (rules, seek_end)
