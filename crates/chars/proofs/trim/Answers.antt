use borrow.Author.Rules.{rules}
use Rattle.chars.proofs.Ends.{snug_both}
use Rattle.chars.proofs.trim.Goals as goal

pub returns-then-surely_trimmed : goal.returns-then-surely_trimmed
returns-then-surely_trimmed c = search (rules, snug_both)
