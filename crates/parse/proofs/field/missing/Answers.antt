use borrow.Author.Rules.{rules}
use Rattle.parse.proofs.Fielding.{missing_not}
use Rattle.parse.proofs.field.missing.Goals as goal

pub returns-in_default : goal.returns-in_default
returns-in_default c = search (rules, missing_not)
