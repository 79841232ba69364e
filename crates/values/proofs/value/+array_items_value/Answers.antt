use Rattle.std.proofs.Common.{rules}
use Rattle.values.proofs.Items.{start, item_blank, item_fault, item_fine, done}
use Rattle.values.proofs.Arrays.{array_deep, array_some, array_fault, array_read}
use Rattle.values.proofs.Values.{none_first, value_string, value_array, value_plain}
use Rattle.values.proofs.value.+array_items_value.Goals.{items-then-not-blank+in_ok-cur, items-else-not-blank, value-in_default-via-then-s-from-lt1, value-in_default-via-else-s-from-lt1+in_default-1}
use Rattle.values.proofs.value.+array_items_value.Goals as goal

pub array-returns-then-allowed-eq0 : goal.array-returns-then-allowed-eq0
array-returns-then-allowed-eq0 t c = search (rules, array_deep)

pub array-returns-in_err-next : goal.array-returns-in_err-next
array-returns-in_err-next t c = array_fault _ _ _ _ _ _ _ c.requires _ _ c.open_array.ensures c.if-allowed-eq0.false _ c.in_err-next.was _ (search rules)

pub array-overflow_sub-e : goal.array-overflow_sub-e
array-overflow_sub-e t c = search (rules, array_some, c.in_ok-next.was)

pub array-returns : goal.array-returns
array-returns t c = search (rules, array_read, c.in_ok-next.was)

pub items-loop-i-init : goal.items-loop-i-init
items-loop-i-init t c = search (rules, start)

pub items-returns-in_err-cur : goal.items-returns-in_err-cur
items-returns-in_err-cur t c = item_fault _ _ _ _ _ _ _ _ _ _ _ c.loop-i.invariant (search rules) _ c.item.ensures _ c.blank.ensures (search rules) _ _ _ c.value.ensures _ c.in_err-cur.was _ (search rules)

pub items-returns : goal.items-returns
items-returns t c = search (rules, done)

pub items-loop-i-preserved : goal.items-loop-i-preserved
items-loop-i-preserved t c = elim c.if-not-blank.branch [ items-then-not-blank+in_ok-cur w ↦ search (rules, item_fine, w.in_ok-cur.was) | items-else-not-blank w ↦ rw (w.store-is, w.tree-is, w.cur-is) (search (rules, item_blank)) ]

pub value-returns-in-34 : goal.value-returns-in-34
value-returns-in-34 t c = search (rules, value_string)

pub value-returns-in-91 : goal.value-returns-in-91
value-returns-in-91 t c = search (rules, value_array)

pub value-returns-in_default : goal.value-returns-in_default
value-returns-in_default t c =
    elim c.in_default-1.branch [
      | value-in_default-via-then-s-from-lt1 w ↦ search (rules, none_first, value_plain)
      | value-in_default-via-else-s-from-lt1+in_default-1 w ↦ search (rules, value_plain)
    ]
