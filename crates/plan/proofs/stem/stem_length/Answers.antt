use borrow.Author.Rules.{rules}
use Rattle.plan.proofs.Stemming.{stem_whole, stem_short}
use Rattle.plan.proofs.stem.stem_length.Goals as goal

pub returns-then-n-eq0 : goal.returns-then-n-eq0
returns-then-n-eq0 c = search (rules, stem_whole)

pub returns-else-n-eq0 : goal.returns-else-n-eq0
returns-else-n-eq0 c = search (rules, stem_short)
