use Rattle.values.proofs.Growing.{make_full, make_room, make_made}
use borrow.Author.Rules.{rules}
use Rattle.values.proofs.grow.make_slot.Goals as goal

pub returns-then-limit-made : goal.returns-then-limit-made
returns-then-limit-made c = search (rules, make_full)

pub put-requires : goal.put-requires
put-requires c = search (rules, make_room)

pub returns : goal.returns
returns c = search (rules, make_made)
