use borrow.Author.Rules.{rules}
use Rattle.parse.proofs.Judging.{partitions_among}
use Rattle.validate.proofs.Judging.{partitions_passed, partitions_refused, parts_fit}
use Rattle.validate.proofs.judge_partitions.Goals as goal

pub read_partitions-p-requires : goal.read_partitions-p-requires
read_partitions-p-requires c = search (rules, partitions_among)

pub returns-then-b-ne0 : goal.returns-then-b-ne0
returns-then-b-ne0 c = search (rules, partitions_refused)

pub check_layout-laid-requires : goal.check_layout-laid-requires
check_layout-laid-requires c = search (rules, parts_fit)

pub judge_components-requires : goal.judge_components-requires
judge_components-requires c = search (rules, parts_fit)

pub returns : goal.returns
returns c = search (rules, partitions_passed)
