use borrow.Author.Rules.{rules}
use Rattle.page.proofs.Quotes.{plain_hit, plain_next}
use Rattle.page.proofs.quote.plain_run.Goals as goal

pub returns-then-letter-ne0 : goal.returns-then-letter-ne0
returns-then-letter-ne0 c = search (rules, plain_hit)

pub loop-i-preserved : goal.loop-i-preserved
loop-i-preserved c = search (rules, plain_next)
