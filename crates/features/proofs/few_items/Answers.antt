use borrow.Author.Rules.{rules}
use Rattle.features.proofs.Choosing.{items_few, items_wrong}
use Rattle.features.proofs.few_items.Goals as goal

pub returns-then-fault-ne0 : goal.returns-then-fault-ne0
returns-then-fault-ne0 c = search (rules, items_wrong)

pub returns : goal.returns
returns c = search (rules, items_few)
