use Rattle.host.proofs.Viewing.{application_none}
use borrow.Author.Rules.{rules}
use Rattle.host.proofs.records.no_application.Goals as goal

pub returns : goal.returns
returns c = search (rules, application_none)
