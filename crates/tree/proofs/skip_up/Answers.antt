use Rattle.tree.proofs.Skipping.{rise_not, rise_start, rise_room, rise_on}
use borrow.Author.Rules.{rules}
use Rattle.tree.proofs.skip_up.Goals as goal

pub returns-then-made-from : goal.returns-then-made-from
returns-then-made-from c = search (rules, rise_not)

pub loop-n-init : goal.loop-n-init
loop-n-init c = search (rules, rise_start)

pub none_under-requires : goal.none_under-requires
none_under-requires c = search (rules, rise_room)

pub loop-n-preserved : goal.loop-n-preserved
loop-n-preserved c = search (rules, rise_on)
