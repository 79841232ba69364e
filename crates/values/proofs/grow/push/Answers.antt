use borrow.Author.Rules.{rules}
use Rattle.values.proofs.Growing.{enter_numbered, enter_fits, enter_place, push_item, push_clash, push_made}
use Rattle.values.proofs.grow.push.Goals as goal

pub kind_at-requires : goal.kind_at-requires
kind_at-requires c = search (rules, enter_numbered)

pub overflow_add-array : goal.overflow_add-array
overflow_add-array c = search (rules, enter_fits)

pub overflow_cast-array : goal.overflow_cast-array
overflow_cast-array c = search (rules, enter_place)

pub returns-then-kind_at-eq-KIND_ARRAY : goal.returns-then-kind_at-eq-KIND_ARRAY
returns-then-kind_at-eq-KIND_ARRAY c = search (rules, push_item)

pub returns-else-kind_at-eq-KIND_ARRAY : goal.returns-else-kind_at-eq-KIND_ARRAY
returns-else-kind_at-eq-KIND_ARRAY c = search (rules, push_clash)

pub returns-in-None : goal.returns-in-None
returns-in-None c = search (rules, push_made)
