use Rattle.preset.proofs.Lining.{lined_not, list_rooms, lined_fine}
use borrow.Author.Rules.{rules}
use Rattle.preset.proofs.listing.list.Goals as goal

pub returns-then-o-ne0 : goal.returns-then-o-ne0
returns-then-o-ne0 c = search (rules, lined_not)

pub invariant_of-rooms : goal.invariant_of-rooms
invariant_of-rooms c = record { fits = search (rules, list_rooms) }

pub returns : goal.returns
returns c = search (rules, lined_fine)
