-- Each array opens with one array less allowed inside it, so three times that number falls from reader to reader around the cycle.
use Rattle.std.proofs.Common.{◌+◌, ◌-◌, length}
use Rattle.values.proofs.Items.{Held}
use Rattle.values.proofs.value.+array_items_value.Given as goal

abbrev pub invariant-items-loop-i : goal.invariant-items-loop-i
invariant-items-loop-i l = Held l.allowed.values l.allowed.arrays l.parent l.s l.initial.store l.initial.tree l.initial.cur l.store l.tree l.i l.cur

abbrev pub decreases-items-loop-i : goal.decreases-items-loop-i
decreases-items-loop-i l = length l.s - l.i

abbrev pub decreases-array : goal.decreases-array
decreases-array l = l.allowed.arrays + l.allowed.arrays + l.allowed.arrays + 1

abbrev pub decreases-items : goal.decreases-items
decreases-items l = l.allowed.arrays + l.allowed.arrays + l.allowed.arrays + 3

abbrev pub decreases-value : goal.decreases-value
decreases-value l = l.allowed.arrays + l.allowed.arrays + l.allowed.arrays + 2
