use borrow.Author.Rules.{rules}
use Rattle.parse.proofs.Entering.{apps_none, apps_on, apps_many}
use Rattle.parse.proofs.entry.check_applications.Goals as goal

pub returns-in_default : goal.returns-in_default
returns-in_default c = search (rules, apps_none)

pub loop-i-preserved : goal.loop-i-preserved
loop-i-preserved c = search (rules, apps_on)

pub returns : goal.returns
returns c = search (rules, apps_many)
