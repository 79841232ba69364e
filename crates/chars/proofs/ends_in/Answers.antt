use borrow.Author.Rules.{rules}
use Rattle.chars.proofs.Spaces.{ends_told, ends_short}
use Rattle.chars.proofs.ends_in.Goals as goal

pub returns-then-k-s : goal.returns-then-k-s
returns-then-k-s c = search (rules, ends_told)

pub returns-else-k-s : goal.returns-else-k-s
returns-else-k-s c = search (rules, ends_short)
