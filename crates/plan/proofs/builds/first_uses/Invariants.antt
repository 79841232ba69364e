-- The first uses among those before number i stand in the array, and use number i is of no package that one before number j is of.
use Prim.Native.Nat.{◌-◌}
use lib.ListN.{get_or}
use Rattle.plan.specs.Builds.{no_use}
use Rattle.plan.proofs.Building.{Firsts, Unused}
use Rattle.plan.proofs.builds.first_uses.Given as goal

abbrev pub invariant-loop-j : goal.invariant-loop-j
invariant-loop-j l = Unused l.store l.uses (get_or l.uses l.initial.i no_use) l.initial.i l.i l.j

abbrev pub decreases-loop-j : goal.decreases-loop-j
decreases-loop-j l = l.i - l.j

abbrev pub invariant-next : goal.invariant-next
invariant-next l = Firsts l.store l.uses l.count l.items l.n l.i

abbrev pub decreases-next : goal.decreases-next
decreases-next l = l.count - l.i
