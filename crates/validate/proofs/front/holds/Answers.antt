use borrow.Author.Rules.{rules}
use Rattle.validate.proofs.Fronting.{holds_start, holds_here, holds_on, holds_end}
use Rattle.validate.proofs.front.holds.Goals as goal

pub loop-i-init : goal.loop-i-init
loop-i-init c = search (rules, holds_start)

pub returns-then-starts_with : goal.returns-then-starts_with
returns-then-starts_with c = search (rules, holds_here)

pub loop-i-preserved : goal.loop-i-preserved
loop-i-preserved c = search (rules, holds_on)

pub returns : goal.returns
returns c = search (rules, holds_end)
