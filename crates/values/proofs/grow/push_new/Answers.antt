use Rattle.values.proofs.Growing.{array_grows, array_item}
use borrow.Author.Rules.{rules}
use Rattle.values.proofs.grow.push_new.Goals as goal

pub make_item-requires : goal.make_item-requires
make_item-requires c = search (rules, array_grows, c.in_ok-array.was)

pub returns : goal.returns
returns c = search (rules, array_item, c.in_ok-array.was)
