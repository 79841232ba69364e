use borrow.Author.Rules.{rules}
use Rattle.validate.proofs.Using.{differ_not, differ_other}
use Rattle.validate.proofs.uses.differ.Goals as goal

pub returns-then-same_text : goal.returns-then-same_text
returns-then-same_text c = search (rules, differ_other)

pub returns-else-same_text : goal.returns-else-same_text
returns-else-same_text c = search (rules, differ_not)
