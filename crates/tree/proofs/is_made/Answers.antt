use Rattle.tree.proofs.Ranking.{made_at, made_none}
use borrow.Author.Rules.{rules}
use Rattle.tree.proofs.is_made.Goals as goal

pub returns-in-Some : goal.returns-in-Some
returns-in-Some c = search (rules, made_at)

pub returns-in-None : goal.returns-in-None
returns-in-None c = search (rules, made_none)
