use Rattle.tree.proofs.Opening.{sink_room, sink_on, sink_hit, sink_end}
use Rattle.tree.proofs.Skipping.{sink_skipped}
use borrow.Author.Rules.{rules}
use Rattle.tree.proofs.newest.Goals as goal

pub loop-i-init : goal.loop-i-init
loop-i-init c = search (rules, sink_skipped)

pub hangs_under-requires : goal.hangs_under-requires
hangs_under-requires c = search (rules, sink_room)

pub returns-then-hangs_under : goal.returns-then-hangs_under
returns-then-hangs_under c = search (rules, sink_hit)

pub loop-i-preserved : goal.loop-i-preserved
loop-i-preserved c = search (rules, sink_on)

pub returns : goal.returns
returns c = search (rules, sink_end)
