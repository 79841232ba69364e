use mathlib.Core.Path.{sym}
use borrow.Author.Rules.{rules}
use Rattle.turns.proofs.Judging.{same_read}
use Rattle.turns.specs.Hits.{later_start, later_end, earlier_start, earlier_on, earlier_hit, earlier_end}
use Rattle.turns.proofs.first_twin.Goals as goal

pub loop-i-init : goal.loop-i-init
loop-i-init g c = search (rules, later_start)

pub loop-j-init : goal.loop-j-init
loop-j-init g c = search (rules, earlier_start)

pub loop-j-preserved : goal.loop-j-preserved
loop-j-preserved g c = search (rules, earlier_on, same_read)

pub loop-i-preserved : goal.loop-i-preserved
loop-i-preserved g c = search (rules, earlier_end)

pub returns-then-same_name : goal.returns-then-same_name
returns-then-same_name g c = search (rules, earlier_hit, same_read)

pub returns : goal.returns
returns g c = sym (search (rules, later_end))
