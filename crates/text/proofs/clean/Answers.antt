use borrow.Author.Rules.{rules}
use Rattle.text.proofs.Standing.{clean_none, clean_so, clean_not}
use Rattle.text.proofs.clean.Goals as goal

pub returns-then-is_empty : goal.returns-then-is_empty
returns-then-is_empty c = search (rules, clean_none)

pub returns-then-s-eq10 : goal.returns-then-s-eq10
returns-then-s-eq10 c = search (rules, clean_so)

pub returns-else-s-eq10 : goal.returns-else-s-eq10
returns-else-s-eq10 c = search (rules, clean_not)
