use Rattle.tree.proofs.Opening.{field_stood, field_some, field_none}
use borrow.Author.Rules.{rules}
use Rattle.tree.proofs.field.Goals as goal

pub value_at-requires : goal.value_at-requires
value_at-requires c = search (rules, field_stood)

pub returns-in-Some : goal.returns-in-Some
returns-in-Some c = search (rules, field_some)

pub returns-in-None : goal.returns-in-None
returns-in-None c = search (rules, field_none)
