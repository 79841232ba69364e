use Rattle.preset.proofs.Settling.{read_rooms}
use Rattle.preset.proofs.Lining.{planned_fine, planned_refused}
use borrow.Author.Rules.{rules}
use Rattle.preset.proofs.listing.list_text.Goals as goal

pub list_tree-requires : goal.list_tree-requires
list_tree-requires c = search (rules, read_rooms)

pub returns-in-Ok : goal.returns-in-Ok
returns-in-Ok c = search (rules, planned_fine)

pub returns-in-Err : goal.returns-in-Err
returns-in-Err c = search (rules, planned_refused)
