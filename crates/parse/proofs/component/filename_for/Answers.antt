use borrow.Author.Rules.{rules}
use Rattle.parse.proofs.Composing.{filename_is}
use Rattle.parse.proofs.component.filename_for.Goals as goal

pub returns : goal.returns
returns c = search (rules, filename_is)
