use Rattle.tree.proofs.Ranking.{better_it, better_best, better_not}
use borrow.Author.Rules.{rules}
use Rattle.tree.proofs.better.Goals as goal

pub returns-then-nearer : goal.returns-then-nearer
returns-then-nearer c = search (rules, better_it)

pub returns-then-follows : goal.returns-then-follows
returns-then-follows c = search (rules, better_best)

pub returns : goal.returns
returns c = search (rules, better_not)
