use borrow.Author.Rules.{rules}
use Rattle.parse.proofs.Entering.{table_spread}
use Rattle.report.proofs.Briefly.{component_brief_lem}
use Rattle.report.proofs.brief.component.Goals as goal

pub kind-k-requires : goal.kind-k-requires
kind-k-requires c = search (rules, table_spread)

pub text-o-requires : goal.text-o-requires
text-o-requires c = search (rules, table_spread)

pub text-p-requires : goal.text-p-requires
text-p-requires c = search (rules, table_spread)

pub returns : goal.returns
returns c = search (rules, component_brief_lem)
