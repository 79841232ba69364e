use borrow.Author.Rules.{rules}
use Rattle.parse.proofs.Entering.{partition_at_lem, table_spread}
use Rattle.parse.proofs.entry.partition_at.Goals as goal

pub read_partition-p-requires : goal.read_partition-p-requires
read_partition-p-requires c = search (rules, table_spread)

pub returns : goal.returns
returns c = search (rules, partition_at_lem)
