use borrow.Author.Rules.{rules}
use Rattle.parse.proofs.Fielding.{text_needs}
use Rattle.parse.proofs.field.text_needed.Goals as goal

pub returns : goal.returns
returns c = search (rules, text_needs)
