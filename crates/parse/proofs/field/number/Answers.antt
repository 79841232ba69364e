use borrow.Author.Rules.{rules}
use Rattle.parse.proofs.Fielding.{number_at_lem}
use Rattle.parse.proofs.field.number.Goals as goal

pub returns : goal.returns
returns c = search (rules, number_at_lem)
