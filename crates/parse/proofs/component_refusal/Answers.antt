use Rattle.parse.proofs.Judging.{components_among, components_judged_lem}
use borrow.Author.Rules.{rules}
use Rattle.parse.proofs.component_refusal.Goals as goal

pub check_components-r-requires : goal.check_components-r-requires
check_components-r-requires c = search (rules, components_among)

pub returns : goal.returns
returns c = search (rules, components_judged_lem)
