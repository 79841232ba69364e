use Rattle.tree.proofs.Ranking.{made_stands, next_is, next_none}
use borrow.Author.Rules.{rules}
use Rattle.tree.proofs.next.Goals as goal

pub nearest-requires : goal.nearest-requires
nearest-requires c = search (rules, made_stands)

pub returns-then-is_made : goal.returns-then-is_made
returns-then-is_made c = search (rules, next_is)

pub returns : goal.returns
returns c = search (rules, next_none)
