-- Of the keys not yet met the one with the number left is the one sought.
use Rattle.parse.proofs.Entering.{Nearing}
use Rattle.parse.proofs.entry.nth_key.Given as goal

abbrev pub invariant-loop-step : goal.invariant-loop-step
invariant-loop-step l = Nearing l.tree l.store l.initial.w.place l.initial.w.end l.i l.w l.left

abbrev pub decreases-loop-step : goal.decreases-loop-step
decreases-loop-step l = l.left
