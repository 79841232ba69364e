use Rattle.values.proofs.Strings.{refused_fits, done_fits, done_high, done_low, string_fault, string_10, string_made}
use borrow.Author.Rules.{rules}
use Rattle.values.proofs.value.string.Goals as goal

pub overflow_add-at : goal.overflow_add-at
overflow_add-at c = search (rules, refused_fits)

pub overflow_add-next : goal.overflow_add-next
overflow_add-next c = search (rules, done_fits)

pub slice_bounds-blank-count : goal.slice_bounds-blank-count
slice_bounds-blank-count c = search (rules, done_high)

pub slice_bounds-blank-start : goal.slice_bounds-blank-start
slice_bounds-blank-start c = search (rules, done_high)

pub string_slot-v-requires : goal.string_slot-v-requires
string_slot-v-requires c = search (rules, done_low)

pub returns-then-blank : goal.returns-then-blank
returns-then-blank c = search (rules, string_made)

pub returns-in-Err : goal.returns-in-Err
returns-in-Err c = search (rules, string_fault)

pub returns-else-blank : goal.returns-else-blank
returns-else-blank c = search (rules, string_10)
