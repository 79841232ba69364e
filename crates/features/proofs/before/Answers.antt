use Rattle.features.proofs.Choosing.{before_is}
use borrow.Author.Rules.{rules}
use Rattle.features.proofs.before.Goals as goal

pub returns : goal.returns
returns c = search (rules, before_is)
