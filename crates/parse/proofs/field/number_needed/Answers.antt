use borrow.Author.Rules.{rules}
use Rattle.parse.proofs.Fielding.{number_needs}
use Rattle.parse.proofs.field.number_needed.Goals as goal

pub returns : goal.returns
returns c = search (rules, number_needs)
