use borrow.Author.Rules.{rules}
use Rattle.report.proofs.Listing.{outcome_wrote}
use Rattle.report.proofs.outcome.Goals as goal

pub returns : goal.returns
returns c = search (rules, outcome_wrote)
