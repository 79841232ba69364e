use borrow.Author.Rules.{rules}
use Rattle.features.proofs.Comparing.{none_is, some_is, compare_start, compare_differ, compare_end, compare_on, compare_less}
use Rattle.features.proofs.equal_slow.Goals as goal

pub loop-f-init : goal.loop-f-init
loop-f-init c = search (rules, compare_start)

pub returns-then-not-same_feature : goal.returns-then-not-same_feature
returns-then-not-same_feature c = search (rules, compare_differ)

pub returns-then-is_none : goal.returns-then-is_none
returns-then-is_none c = search (rules, none_is, compare_end)

pub loop-f-smaller : goal.loop-f-smaller
loop-f-smaller c = let s = some_is _ _ c.is_none.ensures c.if-is_none.false in compare_less _ _ _ _ _ c.loop-f.invariant _ _ c.next_feature-a.ensures c.next_feature-b.ensures _ c.same_feature.ensures c.if-not-same_feature.false s.0 s.1

pub loop-f-preserved : goal.loop-f-preserved
loop-f-preserved c = let s = some_is _ _ c.is_none.ensures c.if-is_none.false in compare_on _ _ _ _ _ c.loop-f.invariant _ _ c.next_feature-a.ensures c.next_feature-b.ensures _ c.same_feature.ensures c.if-not-same_feature.false s.0 s.1
