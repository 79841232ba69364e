use borrow.Author.Rules.{rules}
use Rattle.parse.proofs.Entering.{partition_is}
use Rattle.parse.proofs.entry.read_partition.Goals as goal

pub returns : goal.returns
returns c = search (rules, partition_is)
