use Rattle.tree.proofs.Walks.{holds_next, count_hit, count_on, count_end}
use borrow.Author.Rules.{rules}
use Rattle.tree.proofs.count_items.Goals as goal

pub hangs_under-requires : goal.hangs_under-requires
hangs_under-requires c = search (rules, holds_next)

pub loop-i-preserved-then-hangs_under : goal.loop-i-preserved-then-hangs_under
loop-i-preserved-then-hangs_under c = search (rules, count_hit)

pub loop-i-preserved : goal.loop-i-preserved
loop-i-preserved c = search (rules, count_on)

pub returns : goal.returns
returns c = search (rules, count_end)
