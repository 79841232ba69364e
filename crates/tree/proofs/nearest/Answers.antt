use Rattle.tree.proofs.Ranking.{near_start, near_room, near_best, near_on, near_end}
use borrow.Author.Rules.{rules}
use Rattle.tree.proofs.nearest.Goals as goal

pub loop-i-init : goal.loop-i-init
loop-i-init c = search (rules, near_start)

pub better-best-requires : goal.better-best-requires
better-best-requires c = search (rules, near_room, near_best)

pub loop-i-preserved : goal.loop-i-preserved
loop-i-preserved c = search (rules, near_on)

pub returns : goal.returns
returns c = search (rules, near_end)
