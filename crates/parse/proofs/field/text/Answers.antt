use borrow.Author.Rules.{rules}
use Rattle.parse.proofs.Fielding.{text_at_lem}
use Rattle.parse.proofs.field.text.Goals as goal

pub returns : goal.returns
returns c = search (rules, text_at_lem)
