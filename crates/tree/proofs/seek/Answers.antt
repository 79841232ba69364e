use Rattle.tree.proofs.Opening.{seek_start, seek_room, seek_on, seek_hit, seek_end}
use borrow.Author.Rules.{rules}
use Rattle.tree.proofs.seek.Goals as goal

pub loop-i-init : goal.loop-i-init
loop-i-init c = search (rules, seek_start)

pub is_named_child-requires : goal.is_named_child-requires
is_named_child-requires c = search (rules, seek_room)

pub returns-then-is_named_child : goal.returns-then-is_named_child
returns-then-is_named_child c = search (rules, seek_hit)

pub loop-i-preserved : goal.loop-i-preserved
loop-i-preserved c = search (rules, seek_on)

pub returns : goal.returns
returns c = search (rules, seek_end)
