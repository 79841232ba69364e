use Rattle.host.proofs.Valued.{slot_there, slot_none}
use borrow.Author.Rules.{rules}
use Rattle.host.proofs.single_values.preset_tree_slot.Goals as goal

pub returns-then-n-capacity : goal.returns-then-n-capacity
returns-then-n-capacity c = search (rules, slot_there)

pub returns : goal.returns
returns c = search (rules, slot_none)
