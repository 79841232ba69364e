-- No entry before number i has an earlier twin, and entry number i has none before number j: so the first pair that is met has the first twin.
use Prim.Native.Nat.{◌-◌}
use lib.ListN.{length, get_or}
use Rattle.turns.specs.Marks.{same_name, no_mark}
use Rattle.turns.specs.Hits.{Later, Earlier}
use Rattle.turns.proofs.first_twin.Given as goal

abbrev pub invariant-loop-j : goal.invariant-loop-j
invariant-loop-j g l = Earlier (same_name l.bytes) l.entries (get_or l.entries l.i no_mark) l.i l.j

abbrev pub decreases-loop-j : goal.decreases-loop-j
decreases-loop-j g l = l.i - l.j

abbrev pub invariant-loop-i : goal.invariant-loop-i
invariant-loop-i g l = Later (same_name l.bytes) l.entries l.i

abbrev pub decreases-loop-i : goal.decreases-loop-i
decreases-loop-i g l = length l.entries - l.i
