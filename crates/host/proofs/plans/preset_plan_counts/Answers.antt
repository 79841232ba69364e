-- The rooms hold the values where the view is read; of rooms that do not, all is 0.
use borrow.Author.Rules.{rules}
use Rattle.parse.proofs.Opening.{held, shut}
use Rattle.host.proofs.Plotting.{counts_shown_lem, no_counts}
use Rattle.host.proofs.plans.preset_plan_counts.Goals as goal

pub returns : goal.returns
returns c =
    let o = c.in-Some.ensures in
    let h = held _ _ c.in-Some.rooms.fits in
    rw (← o.tree_is, ← o.store_is, ← o.made_is) (search (rules, counts_shown_lem))

pub returns-in_default : goal.returns-in_default
returns-in_default c = let h = shut _ _ c.in_default.ensures in search (rules, no_counts)
