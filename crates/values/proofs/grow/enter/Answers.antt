use borrow.Author.Rules.{rules}
use Rattle.values.proofs.Growing.{enter_numbered, enter_fits, enter_place, enter_walked, enter_over, enter_new}
use Rattle.values.proofs.grow.enter.Goals as goal

pub kind_at-requires : goal.kind_at-requires
kind_at-requires c = search (rules, enter_numbered)

pub overflow_add-result : goal.overflow_add-result
overflow_add-result c = search (rules, enter_fits)

pub overflow_cast-result : goal.overflow_cast-result
overflow_cast-result c = search (rules, enter_place)

pub returns-then-kind_at-eq-KIND_TABLE : goal.returns-then-kind_at-eq-KIND_TABLE
returns-then-kind_at-eq-KIND_TABLE c = search (rules, enter_walked)

pub returns-else-kind_at-eq-KIND_TABLE : goal.returns-else-kind_at-eq-KIND_TABLE
returns-else-kind_at-eq-KIND_TABLE c = search (rules, enter_over)

pub returns-in-None : goal.returns-in-None
returns-in-None c = search (rules, enter_new)
