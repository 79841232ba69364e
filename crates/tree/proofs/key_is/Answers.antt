use Rattle.tree.proofs.Walks.{keyed_past, keyed_is}
use borrow.Author.Rules.{rules}
use Rattle.tree.proofs.key_is.Goals as goal

pub returns-then-store-end : goal.returns-then-store-end
returns-then-store-end c = search (rules, keyed_past)

pub returns : goal.returns
returns c = search (rules, keyed_is)
