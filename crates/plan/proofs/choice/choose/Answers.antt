use borrow.Author.Rules.{rules}
use Rattle.parse.proofs.Judging.{applications_among}
use Rattle.plan.proofs.Choosing.{choice_boot, choice_app}
use Rattle.plan.proofs.choice.choose.Goals as goal

pub returns-then-app-eq0 : goal.returns-then-app-eq0
returns-then-app-eq0 c = search (rules, choice_boot)

pub declared-requires : goal.declared-requires
declared-requires c = search (rules, applications_among)

pub returns : goal.returns
returns c = search (rules, choice_app)
