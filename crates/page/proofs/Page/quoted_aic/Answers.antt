use borrow.Author.Rules.{rules}
use Rattle.page.proofs.Quotes.{aic_is}
use Rattle.page.proofs.Page.quoted_aic.Goals as goal

pub returns : goal.returns
returns c = search (rules, aic_is)
