use Rattle.tree.specs.Spans.{items_end}
use borrow.Author.Rules.{rules}
use Rattle.tree.proofs.Stepping.{item_step}
use Rattle.tree.proofs.next_item.Goals as goal

pub returns : goal.returns
returns c = search (rules, item_step)

pub returns-in_err-value : goal.returns-in_err-value
returns-in_err-value c = search (rules, items_end)
