use borrow.Author.Rules.{rules}
use Rattle.plan.proofs.Targeting.{target_fits, target_is, target_none}
use Rattle.plan.proofs.target.partition.Goals as goal

pub returns-then-p-ne0 : goal.returns-then-p-ne0
returns-then-p-ne0 c = search (rules, target_none)

pub slice_bounds-partition_named-end : goal.slice_bounds-partition_named-end
slice_bounds-partition_named-end c = search (rules, target_fits)

pub returns : goal.returns
returns c = search (rules, target_is)
