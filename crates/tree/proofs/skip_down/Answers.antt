use Rattle.tree.proofs.Skipping.{fall_start, fall_room, fall_on}
use borrow.Author.Rules.{rules}
use Rattle.tree.proofs.skip_down.Goals as goal

pub loop-i-init : goal.loop-i-init
loop-i-init c = search (rules, fall_start)

pub none_under-requires : goal.none_under-requires
none_under-requires c = search (rules, fall_room)

pub loop-i-preserved : goal.loop-i-preserved
loop-i-preserved c = search (rules, fall_on)
