use borrow.Author.Rules.{rules}
use Rattle.chars.proofs.Spaces.{start_fits, start_ascii, start_plain, start_on, start_stop, start_end}
use Rattle.chars.proofs.trim_start.Goals as goal

pub returns-then-not-ascii_white : goal.returns-then-not-ascii_white
returns-then-not-ascii_white c = search (rules, start_plain)

pub loop-i-preserved-then-s-i-lt128 : goal.loop-i-preserved-then-s-i-lt128
loop-i-preserved-then-s-i-lt128 c = search (rules, start_ascii)

pub returns-then-n-eq0 : goal.returns-then-n-eq0
returns-then-n-eq0 c = start_stop _ _ _ c.white_at-n.ensures c.loop-i.invariant c.if-n-eq0.true

pub overflow_add-i-else-s-i-lt128 : goal.overflow_add-i-else-s-i-lt128
overflow_add-i-else-s-i-lt128 c = start_fits _ _ _ c.white_at-n.ensures c.loop-i.invariant (search rules)

pub loop-i-preserved : goal.loop-i-preserved
loop-i-preserved c = search (rules, start_on)

pub returns : goal.returns
returns c = search (rules, start_end)
