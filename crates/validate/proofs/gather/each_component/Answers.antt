use borrow.Author.Rules.{rules}
use Rattle.validate.proofs.Gathering.{comps_none_by, comps_not_by, comps_on}
use Rattle.validate.proofs.gather.each_component.Goals.{in-Some+then-e-ne0, in_default}
use Rattle.validate.proofs.gather.each_component.Goals as goal

pub loop-step-preserved : goal.loop-step-preserved
loop-step-preserved c = search (rules, comps_on)

pub returns : goal.returns
returns c = elim c.match-next_item.branch [ in-Some+then-e-ne0 w ↦ search (rules, comps_not_by) | in_default w ↦ search (rules, comps_none_by) ]
