use borrow.Author.Rules.{rules}
use Rattle.schema.specs.Texts.{clip}
use Rattle.schema.proofs.stored.Goals as goal

pub returns-then-len-store : goal.returns-then-len-store
unfolding clip
returns-then-len-store c = search rules

pub returns-else-from-store : goal.returns-else-from-store
unfolding clip
returns-else-from-store c = search rules
