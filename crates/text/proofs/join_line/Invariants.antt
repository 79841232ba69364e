-- Each line is counted once, onward from those before it, and judged as the carried joining judges it.
use Prim.Native.Nat.{◌-◌}
use lib.ListN.{length}
use Rattle.text.proofs.Joining.{Gathering}
use Rattle.text.proofs.join_line.Given as goal

abbrev pub invariant-loop-at : goal.invariant-loop-at
invariant-loop-at l = Gathering l.s l.at l.lines l.carried

abbrev pub decreases-loop-at : goal.decreases-loop-at
decreases-loop-at l = length l.s - l.at
