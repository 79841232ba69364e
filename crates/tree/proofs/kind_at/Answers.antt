use borrow.Author.Rules.{rules}
use Rattle.tree.proofs.Stepping.{kind_is}
use Rattle.tree.proofs.kind_at.Goals as goal

pub returns : goal.returns
returns c = search (rules, kind_is)
