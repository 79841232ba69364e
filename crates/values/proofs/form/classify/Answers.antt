use Rattle.values.proofs.Forming.{pushes, heads, sets, neither}
use borrow.Author.Rules.{rules}
use Rattle.values.proofs.form.classify.Goals as goal

pub returns-then-is_array_header : goal.returns-then-is_array_header
returns-then-is_array_header c = search (rules, pushes)

pub returns-then-is_table_header : goal.returns-then-is_table_header
returns-then-is_table_header c = search (rules, heads)

pub returns-then-at-l : goal.returns-then-at-l
returns-then-at-l c = search (rules, sets)

pub returns-else-at-l : goal.returns-else-at-l
returns-else-at-l c = search (rules, neither)
