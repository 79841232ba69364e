use Rattle.values.proofs.Growing.{seek_is}
use borrow.Author.Rules.{rules}
use Rattle.values.proofs.grow.seek.Goals as goal

pub returns : goal.returns
returns c = search (rules, seek_is)
