use Rattle.preset.proofs.Lining.{short_least, short_less, short_last}
use borrow.Author.Rules.{rules}
use Rattle.preset.proofs.listing.lacks_room.Goals as goal

pub returns-then-out-lt-LISTING_BYTES : goal.returns-then-out-lt-LISTING_BYTES
returns-then-out-lt-LISTING_BYTES c = search (rules, short_least)

pub returns-then-out-name : goal.returns-then-out-name
returns-then-out-name c = search (rules, short_less)

pub returns : goal.returns
returns c = search (rules, short_last)
