use borrow.Author.Rules.{rules}
use Rattle.parse.proofs.Entering.{parts_each, parts_few, parts_many}
use Rattle.parse.proofs.entry.read_partitions.Goals as goal

pub returns-then-limit-n : goal.returns-then-limit-n
returns-then-limit-n c = search (rules, parts_many)

pub each_partition-requires : goal.each_partition-requires
each_partition-requires c = search (rules, parts_few)

pub returns : goal.returns
returns c = search (rules, parts_each)
