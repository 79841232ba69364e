use borrow.Author.Rules.{rules}
use Rattle.parse.proofs.Entering.{application_at_lem, table_spread}
use Rattle.parse.proofs.entry.application_at.Goals as goal

pub read_application-a-requires : goal.read_application-a-requires
read_application-a-requires c = search (rules, table_spread)

pub returns : goal.returns
returns c = search (rules, application_at_lem)
