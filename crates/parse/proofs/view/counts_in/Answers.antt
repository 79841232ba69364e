use borrow.Author.Rules.{rules}
use Rattle.parse.proofs.Judging.{lists_partitions, lists_components, lists_applications, counts_are}
use Rattle.parse.proofs.view.counts_in.Goals as goal

pub count_items-requires : goal.count_items-requires
count_items-requires c = search (rules, lists_partitions)

pub count_items-requires-2 : goal.count_items-requires-2
count_items-requires-2 c = search (rules, lists_components)

pub count_keys-requires : goal.count_keys-requires
count_keys-requires c = search (rules, lists_applications)

pub returns : goal.returns
returns c = search (rules, counts_are)
