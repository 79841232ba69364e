use borrow.Author.Rules.{rules}
use Rattle.parse.proofs.Entering.{table_spread}
use Rattle.report.proofs.Briefly.{application_brief_lem}
use Rattle.report.proofs.brief.application.Goals as goal

pub text-o-requires : goal.text-o-requires
text-o-requires c = search (rules, table_spread)

pub text-p-requires : goal.text-p-requires
text-p-requires c = search (rules, table_spread)

pub returns : goal.returns
returns c = search (rules, application_brief_lem)
