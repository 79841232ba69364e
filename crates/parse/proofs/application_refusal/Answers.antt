use Rattle.parse.proofs.Judging.{applications_among, applications_judged_lem}
use borrow.Author.Rules.{rules}
use Rattle.parse.proofs.application_refusal.Goals as goal

pub check_applications-r-requires : goal.check_applications-r-requires
check_applications-r-requires c = search (rules, applications_among)

pub returns : goal.returns
returns c = search (rules, applications_judged_lem)
