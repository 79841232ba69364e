use Rattle.preset.proofs.Lining.{tree_ready}
use borrow.Author.Rules.{rules}
use Rattle.preset.proofs.listing.list_tree.Goals as goal

pub list-requires : goal.list-requires
list-requires c = search (rules, tree_ready)
