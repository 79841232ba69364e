use Rattle.features.proofs.Wording.{count_start, meeting, meet_on, meet_less}
use borrow.Author.Rules.{rules}
use Rattle.features.proofs.reader.count.Goals as goal

pub loop-here-init : goal.loop-here-init
loop-here-init c = meeting _ _ c.new.result (search (rules, count_start)) (search rules) _ c.next-here.ensures

pub loop-here-smaller : goal.loop-here-smaller
loop-here-smaller c = meet_less _ _ _ c.loop-here.invariant (search rules) _ c.next-here-in-loop-here.ensures

pub loop-here-preserved : goal.loop-here-preserved
loop-here-preserved c = meet_on _ _ _ c.loop-here.invariant (search rules) _ c.next-here-in-loop-here.ensures
