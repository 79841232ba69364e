use Rattle.tree.proofs.Ranking.{past_left, past_right, before_is}
use borrow.Author.Rules.{rules}
use Rattle.tree.proofs.before.Goals as goal

pub returns-then-store-to : goal.returns-then-store-to
returns-then-store-to c = search (rules, past_left)

pub returns-then-store-stop : goal.returns-then-store-stop
returns-then-store-stop c = search (rules, past_right)

pub returns : goal.returns
returns c = search (rules, before_is)
