use Prim.Native.Nat.{◌-◌}
use lib.ListN.{length}
use Rattle.page.proofs.Quotes.{Inside}
use Rattle.page.proofs.Page.inside.Given as goal

abbrev pub invariant-loop-i : goal.invariant-loop-i
invariant-loop-i l = Inside l.s l.initial.self l.i l.self

abbrev pub decreases-loop-i : goal.decreases-loop-i
decreases-loop-i l = length l.s - l.i
