use borrow.Author.Rules.{rules}
use Rattle.page.proofs.Writing.{blank_not}
use Rattle.page.proofs.blank.Goals as goal

pub returns-in_default : goal.returns-in_default
returns-in_default c = search (rules, blank_not)
