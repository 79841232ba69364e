use Rattle.tree.proofs.Walks.{mine_other}
use borrow.Author.Rules.{rules}
use Rattle.tree.proofs.is_field.Goals as goal

pub returns-then-len-key : goal.returns-then-len-key
returns-then-len-key c = search (rules, mine_other)
