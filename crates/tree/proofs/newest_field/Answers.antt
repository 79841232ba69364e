use Rattle.tree.proofs.Opening.{seek_start, seek_room, seek_on, seek_hit, seek_end, among_is}
use borrow.Author.Rules.{rules}
use Rattle.tree.proofs.newest_field.Goals as goal

pub loop-i-init : goal.loop-i-init
loop-i-init c = search (rules, seek_start)

pub is_field-requires : goal.is_field-requires
is_field-requires c = search (rules, seek_room)

pub returns-then-is_field : goal.returns-then-is_field
returns-then-is_field c = search (rules, seek_hit, among_is)

pub loop-i-preserved : goal.loop-i-preserved
loop-i-preserved c = search (rules, seek_on)

pub returns : goal.returns
returns c = search (rules, seek_end, among_is)
