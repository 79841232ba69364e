use borrow.Author.Rules.{rules}
use Rattle.page.proofs.Quotes.{quoted_is}
use Rattle.page.proofs.Page.quoted.Goals as goal

pub returns : goal.returns
returns c = search (rules, quoted_is)
