use borrow.Author.Rules.{rules}
use Rattle.report.proofs.Listing.{keys_start, keys_none, keys_past, apps_on, apps_list}
use Rattle.report.proofs.lists.apps.Goals as goal

pub loop-i-init : goal.loop-i-init
loop-i-init c = search (rules, keys_start)

pub returns-in_default : goal.returns-in_default
returns-in_default c = search (rules, keys_none, apps_list)

pub loop-i-preserved : goal.loop-i-preserved
loop-i-preserved c = search (rules, apps_on)

pub returns : goal.returns
returns c = search (rules, keys_past, apps_list)
