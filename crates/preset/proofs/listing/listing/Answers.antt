use Rattle.preset.proofs.Lining.{lists_short, lists_long}
use borrow.Author.Rules.{rules}
use Rattle.preset.proofs.listing.listing.Goals as goal

pub returns-then-lacks_room : goal.returns-then-lacks_room
returns-then-lacks_room c = search (rules, lists_short)

pub returns : goal.returns
returns c = search (rules, lists_long)
