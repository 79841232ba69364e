use borrow.Author.Rules.{rules}
use Rattle.tree.proofs.Stepping.{key_is_lem}
use Rattle.tree.proofs.key_at.Goals as goal

pub returns : goal.returns
returns c = search (rules, key_is_lem)
