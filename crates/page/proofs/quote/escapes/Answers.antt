use borrow.Author.Rules.{rules}
use Rattle.page.proofs.Quotes.{none_met}
use Rattle.page.proofs.quote.escapes.Goals as goal

pub returns : goal.returns
returns c = search (rules, none_met)
