-- The rooms hold the values where the view is read; of rooms that do not, all is 0.
use borrow.Author.Rules.{rules}
use Rattle.parse.proofs.Opening.{held, shut}
use Rattle.laws.specs.Tests.{calls}
use Rattle.host.proofs.records.preset_board.Goals as goal

pub returns : goal.returns
returns c =
    let o = c.in-Some.ensures in
    let h = held _ _ c.in-Some.rooms.fits in
    rw (← o.tree_is, ← o.store_is, ← o.made_is) (search calls)

pub returns-in_default : goal.returns-in_default
returns-in_default c = let h = shut _ _ c.in_default.ensures in search calls
