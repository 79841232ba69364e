-- The lines of the applications met stand on the page, and with those to come they are the lines of all.
use Rattle.report.specs.Shown as shown
use Rattle.report.proofs.Listing.{Keyed}
use Rattle.report.proofs.lists.apps.Given as goal

abbrev pub invariant-loop-i : goal.invariant-loop-i
invariant-loop-i l = Keyed (shown.app_at l.rooms.tree.now l.rooms.store.now l.rooms.made l.name) l.rooms.tree.now l.rooms.store.now l.initial.w l.initial.page l.w l._i l.page
