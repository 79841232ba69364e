use borrow.Author.Rules.{rules}
use Rattle.chars.proofs.Spaces.{end_ascii, end_plain, end_bound, end_on, end_halt, end_end}
use Rattle.chars.proofs.trim_end.Goals as goal

pub returns-then-not-ascii_white : goal.returns-then-not-ascii_white
returns-then-not-ascii_white c = search (rules, end_plain)

pub loop-e-preserved-then-s-e-lt128 : goal.loop-e-preserved-then-s-e-lt128
loop-e-preserved-then-s-e-lt128 c = search (rules, end_ascii)

pub returns-then-n-eq0 : goal.returns-then-n-eq0
returns-then-n-eq0 c = search (rules, end_halt)

pub overflow_sub-e-else-s-e-lt128 : goal.overflow_sub-e-else-s-e-lt128
overflow_sub-e-else-s-e-lt128 c = search (rules, end_bound)

pub loop-e-preserved : goal.loop-e-preserved
loop-e-preserved c = search (rules, end_on)

pub returns : goal.returns
returns c = search (rules, end_end)
