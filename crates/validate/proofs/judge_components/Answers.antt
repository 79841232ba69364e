-- Where no component has a fault there are few, and what was gathered of them is what 01 asks of them; the paths are too long for the search.
use borrow.Author.Rules.{rules}
use Rattle.parse.proofs.Judging.{components_hold}
use Rattle.validate.proofs.Judging.{components_counted, components_refused, list_refused, components_few, components_passed}
use Rattle.validate.proofs.judge_components.Goals as goal

pub count_items-n-requires : goal.count_items-n-requires
count_items-n-requires c = search (rules, components_hold)

pub returns-then-a-ne0 : goal.returns-then-a-ne0
returns-then-a-ne0 c = search (rules, list_refused)

pub each_component-c-requires : goal.each_component-c-requires
each_component-c-requires c = search (rules, components_counted)

pub returns-then-c-ne0 : goal.returns-then-c-ne0
returns-then-c-ne0 c = search (rules, components_refused)

pub judge_applications-requires : goal.judge_applications-requires
judge_applications-requires c = (
  c.requires,
  components_few _ _ _ _ c.component_list-l.ensures _ c.count_items-n.ensures _ _ _ c.in_section.ensures c.check_length.ensures c.earlier-a.ensures c.if-a-ne0.false _ _
      c.each_component-c.ensures c.if-c-ne0.false,
)

pub returns : goal.returns
returns c =
    components_passed _ _ _ _ c.component_list-l.ensures _ c.count_items-n.ensures _ _ _ c.in_section.ensures c.check_length.ensures c.earlier-a.ensures c.if-a-ne0.false _ _
    c.each_component-c.ensures c.if-c-ne0.false _ _ _ _ c.check_components.ensures c.earlier-own.ensures c.judge_applications.ensures
