use borrow.Author.Rules.{rules}
use Rattle.chars.proofs.Eights.{check_eight, all_ascii}
use Rattle.chars.proofs.Spaces.{check_fits, check_on, check_stop, check_end}
use Rattle.chars.proofs.valid.Goals as goal

pub returns-then-ascii : goal.returns-then-ascii
returns-then-ascii c = search (rules, all_ascii)

pub loop-i-preserved-then-ascii_8 : goal.loop-i-preserved-then-ascii_8
loop-i-preserved-then-ascii_8 c = search (rules, check_eight)

pub returns-then-n-eq0 : goal.returns-then-n-eq0
returns-then-n-eq0 c = search (rules, check_stop)

pub overflow_add-i-else-ascii_8 : goal.overflow_add-i-else-ascii_8
overflow_add-i-else-ascii_8 c = search (rules, check_fits)

pub loop-i-preserved : goal.loop-i-preserved
loop-i-preserved c = search (rules, check_on)

pub returns : goal.returns
returns c = search (rules, check_end)
