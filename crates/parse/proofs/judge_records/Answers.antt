use borrow.Author.Rules.{rules}
use Rattle.parse.proofs.Judging.{limits_judging, verdict_told}
use Rattle.parse.proofs.judge_records.Goals as goal

pub check_records-requires : goal.check_records-requires
check_records-requires c = search (rules, limits_judging)

pub returns : goal.returns
returns c = search (rules, verdict_told)
