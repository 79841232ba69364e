use Rattle.tree.proofs.Skipping.{idle_start, idle_room, idle_on, idle_hit, idle_end}
use borrow.Author.Rules.{rules}
use Rattle.tree.proofs.none_under.Goals as goal

pub loop-k-init : goal.loop-k-init
loop-k-init c = search (rules, idle_start)

pub hangs_under-requires : goal.hangs_under-requires
hangs_under-requires c = search (rules, idle_room)

pub returns-then-hangs_under : goal.returns-then-hangs_under
returns-then-hangs_under c = search (rules, idle_hit)

pub loop-k-preserved : goal.loop-k-preserved
loop-k-preserved c = search (rules, idle_on)

pub returns : goal.returns
returns c = search (rules, idle_end)
