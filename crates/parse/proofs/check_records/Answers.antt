use Rattle.parse.proofs.Judging.{front_refused, partitions_refused, components_refused, all_judged}
use borrow.Author.Rules.{rules}
use Rattle.parse.proofs.check_records.Goals as goal

pub returns-then-a-ne0 : goal.returns-then-a-ne0
returns-then-a-ne0 c = search (rules, front_refused)

pub returns-then-b-ne0 : goal.returns-then-b-ne0
returns-then-b-ne0 c = search (rules, partitions_refused)

pub returns-then-c-ne0 : goal.returns-then-c-ne0
returns-then-c-ne0 c = search (rules, components_refused)

pub returns : goal.returns
returns c = search (rules, all_judged)
