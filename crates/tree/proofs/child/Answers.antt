use Rattle.tree.proofs.Walks.{holds_next, walk_on, walk_hit, walk_end}
use Rattle.tree.proofs.Skipping.{walk_skipped}
use borrow.Author.Rules.{rules}
use Rattle.tree.proofs.child.Goals as goal

pub loop-n-init : goal.loop-n-init
loop-n-init c = search (rules, walk_skipped)

pub hangs_under-requires : goal.hangs_under-requires
hangs_under-requires c = search (rules, holds_next)

pub returns-then-hangs_under : goal.returns-then-hangs_under
returns-then-hangs_under c = search (rules, walk_hit)

pub loop-n-preserved : goal.loop-n-preserved
loop-n-preserved c = search (rules, walk_on)

pub returns : goal.returns
returns c = search (rules, walk_end)
