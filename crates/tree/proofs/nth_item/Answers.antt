use Rattle.tree.proofs.Opening.{pass_start, pass_over, pass_on, pass_hit, pass_end}
use Rattle.tree.proofs.Walks.{holds_next}
use borrow.Author.Rules.{rules}
use Rattle.tree.proofs.nth_item.Goals as goal

pub loop-from-init : goal.loop-from-init
loop-from-init c = search (rules, pass_start)

pub hangs_under-requires : goal.hangs_under-requires
hangs_under-requires c = search (rules, holds_next)

pub returns-then-left-eq0 : goal.returns-then-left-eq0
returns-then-left-eq0 c = search (rules, pass_hit)

pub loop-from-preserved-then-hangs_under : goal.loop-from-preserved-then-hangs_under
loop-from-preserved-then-hangs_under c = search (rules, pass_on)

pub loop-from-preserved : goal.loop-from-preserved
loop-from-preserved c = search (rules, pass_over)

pub returns : goal.returns
returns c = search (rules, pass_end)
