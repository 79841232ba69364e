use borrow.Author.Rules.{rules}
use Rattle.plan.proofs.Building.{comps_start, comps_on, comps_none, comps_full}
use Rattle.plan.proofs.builds.each_component.Goals as goal

pub loop-step-init : goal.loop-step-init
loop-step-init c = search (rules, comps_start)

pub loop-step-preserved : goal.loop-step-preserved
loop-step-preserved c = search (rules, comps_on)

pub returns-then-i-ge-COMPONENT_USES : goal.returns-then-i-ge-COMPONENT_USES
returns-then-i-ge-COMPONENT_USES c = search (rules, comps_none, comps_full)
