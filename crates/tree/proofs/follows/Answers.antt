use Rattle.tree.proofs.Ranking.{follows_is, follows_not}
use borrow.Author.Rules.{rules}
use Rattle.tree.proofs.follows.Goals as goal

pub returns-then-hangs_under : goal.returns-then-hangs_under
returns-then-hangs_under c = search (rules, follows_is)

pub returns : goal.returns
returns c = search (rules, follows_not)
