use borrow.Author.Rules.{rules}
use native.Mathlib.Omega.{arith}
use Rattle.features.proofs.Comparing.{none_is, some_is}
use Rattle.features.proofs.Tallying.{tally_start, tally_end, tally_on, tally_last}
use Rattle.features.proofs.tally.Goals as goal

pub loop-n-init : goal.loop-n-init
loop-n-init c = search (rules, tally_start)

pub returns-then-is_none : goal.returns-then-is_none
returns-then-is_none c = search (rules, none_is, tally_end)

pub loop-n-preserved : goal.loop-n-preserved
loop-n-preserved c = let s = some_is _ _ c.is_none.ensures c.if-is_none.false in (tally_on _ _ _ _ c.loop-n.invariant.0 _ c.nearest-after.ensures s.0 s.1, omega arith)

pub returns : goal.returns
returns c = search (rules, tally_last)
