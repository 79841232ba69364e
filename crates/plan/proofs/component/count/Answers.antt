use borrow.Author.Rules.{rules}
use Rattle.parse.proofs.Judging.{components_hold}
use Rattle.plan.proofs.Composing.{total_fits, total_boot, total_more}
use Rattle.plan.proofs.component.count.Goals as goal

pub count_items-n-requires : goal.count_items-n-requires
count_items-n-requires c = search (rules, components_hold)

pub overflow_add-result : goal.overflow_add-result
overflow_add-result c = search (rules, total_fits)

pub returns-in-BootChain : goal.returns-in-BootChain
returns-in-BootChain c = search (rules, total_boot)

pub returns-in-At : goal.returns-in-At
returns-in-At c = search (rules, total_more)
