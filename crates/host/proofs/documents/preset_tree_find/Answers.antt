use Rattle.host.proofs.Presenting.{none_there, found_there}
use borrow.Author.Rules.{rules}
use Rattle.host.proofs.documents.preset_tree_find.Goals as goal

pub returns-then-capacity-made : goal.returns-then-capacity-made
returns-then-capacity-made c = search (rules, none_there)

pub returns : goal.returns
returns c = search (rules, found_there)
