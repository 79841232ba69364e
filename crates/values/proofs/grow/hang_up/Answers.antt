use borrow.Author.Rules.{rules}
use Rattle.values.proofs.Descending.{hangs_is}
use Rattle.values.proofs.grow.hang_up.Goals as goal

pub returns : goal.returns
returns c = search (rules, hangs_is)
