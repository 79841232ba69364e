use Rattle.tree.proofs.Skipping.{look_start, look_room, look_hit, look_on, look_few, look_end}
use borrow.Author.Rules.{rules}
use Rattle.tree.proofs.find_child.Goals as goal

pub loop-i-init : goal.loop-i-init
loop-i-init c = search (rules, look_start)

pub seek_block-found-requires : goal.seek_block-found-requires
seek_block-found-requires c = search (rules, look_room)

pub returns-then-is_some : goal.returns-then-is_some
returns-then-is_some c = search (rules, look_hit)

pub loop-i-preserved : goal.loop-i-preserved
loop-i-preserved c = search (rules, look_on)

pub seek-requires : goal.seek-requires
seek-requires c = search (rules, look_few)

pub returns : goal.returns
returns c = search (rules, look_end)
