-- The lines of the first i builds stand on the page, and with those of the rest they are the lines of all.
use lib.ListN.{drop}
use Rattle.plan.specs.declared.choice.Choice.TheVariants.{BootChain}
use Rattle.plan.specs.Builds.{builds_of}
use Rattle.report.specs.Shown.{build_of}
use Rattle.report.proofs.Listing.{Left}
use Rattle.report.proofs.lists.builds.Given as goal

abbrev pub invariant-loop-i : goal.invariant-loop-i
invariant-loop-i l = Left (build_of l.rooms.tree.now l.rooms.store.now l.rooms.made l.name) (builds_of l.rooms.tree.now l.rooms.store.now l.rooms.made BootChain) (drop l.i (builds_of l.rooms.tree.now l.rooms.store.now l.rooms.made BootChain)) l.initial.page l.page
