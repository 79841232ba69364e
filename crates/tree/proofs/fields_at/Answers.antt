use Rattle.tree.proofs.Opening.{newest_room, fields_is}
use borrow.Author.Rules.{rules}
use Rattle.tree.proofs.fields_at.Goals as goal

pub child-requires : goal.child-requires
child-requires c = search (rules, newest_room)

pub returns : goal.returns
returns c = search (rules, fields_is)
