use Rattle.tree.proofs.Walks.{mine_not, mine_is}
use borrow.Author.Rules.{rules}
use Rattle.tree.proofs.is_named_child.Goals as goal

pub returns-then-hangs_under : goal.returns-then-hangs_under
returns-then-hangs_under c = search (rules, mine_is)

pub returns : goal.returns
returns c = search (rules, mine_not)
