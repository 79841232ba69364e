use borrow.Author.Rules.{rules}
use Rattle.page.proofs.Quotes.{inside_start, inside_last, inside_on}
use Rattle.page.proofs.Page.inside.Goals as goal

pub loop-i-init : goal.loop-i-init
loop-i-init c = search (rules, inside_start)

pub returns-then-j-s : goal.returns-then-j-s
returns-then-j-s c = search (rules, inside_last)

pub loop-i-preserved : goal.loop-i-preserved
loop-i-preserved c = search (rules, inside_on)
