use Rattle.tree.proofs.Ranking.{key_is_lem}
use borrow.Author.Rules.{rules}
use Rattle.tree.proofs.has_key.Goals as goal

pub returns : goal.returns
returns c = search (rules, key_is_lem)
