use Rattle.parse.proofs.Opening.{held, shut}
use Rattle.parse.proofs.view.counts_at.Goals as goal

pub returns-in-Some : goal.returns-in-Some
returns-in-Some c =
    let o = c.in-Some.ensures in
    rw (← o.tree_is, ← o.store_is, ← o.made_is, ← held _ _ c.in-Some.rooms.fits) c.counts_of.ensures

pub returns-in-None : goal.returns-in-None
returns-in-None c = rw (← shut _ _ c.in-None.ensures)
