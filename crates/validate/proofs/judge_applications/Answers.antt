use borrow.Author.Rules.{rules}
use Rattle.validate.proofs.Judging.{applications_followed, applications_passed, applications_refused, rules_refused}
use Rattle.validate.proofs.judge_applications.Goals as goal

pub each_application-a-requires : goal.each_application-a-requires
each_application-a-requires c = search (rules, applications_followed)

pub returns-then-b-ne0 : goal.returns-then-b-ne0
returns-then-b-ne0 c = search (rules, applications_refused)

pub returns-then-rules-ne0 : goal.returns-then-rules-ne0
returns-then-rules-ne0 c = search (rules, rules_refused)

pub returns : goal.returns
returns c = search (rules, applications_passed)
