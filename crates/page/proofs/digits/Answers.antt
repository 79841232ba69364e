use borrow.Author.Rules.{rules}
use Rattle.page.proofs.Decimals.{spell_start, spell_on, spell_end}
use Rattle.page.proofs.digits.Goals as goal

pub loop-n-init : goal.loop-n-init
loop-n-init c = search (rules, spell_start)

pub loop-n-preserved : goal.loop-n-preserved
loop-n-preserved c = search (rules, spell_on)

pub returns : goal.returns
returns c = search (rules, spell_end)
