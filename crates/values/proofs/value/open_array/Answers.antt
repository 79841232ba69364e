use Rattle.values.proofs.Making.{open_none, open_made, open_other}
use borrow.Author.Rules.{rules}
use Rattle.values.proofs.value.open_array.Goals as goal

pub returns-in-93 : goal.returns-in-93
returns-in-93 c = search (rules, open_made)

pub returns-in_default : goal.returns-in_default
returns-in_default c = open_none _ _ _ c.requires _ _ (search rules)

pub returns-in_default-2 : goal.returns-in_default-2
returns-in_default-2 c = open_other _ _ _ c.requires _ _ (search rules)
