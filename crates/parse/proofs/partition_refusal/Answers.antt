use Rattle.parse.proofs.Judging.{partitions_among, partitions_judged_lem}
use borrow.Author.Rules.{rules}
use Rattle.parse.proofs.partition_refusal.Goals as goal

pub read_partitions-r-requires : goal.read_partitions-r-requires
read_partitions-r-requires c = search (rules, partitions_among)

pub returns : goal.returns
returns c = search (rules, partitions_judged_lem)
