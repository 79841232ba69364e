use borrow.Author.Rules.{rules}
use Rattle.validate.proofs.Entering.{application_read_lem}
use Rattle.validate.proofs.application.entry.Goals as goal

pub returns : goal.returns
returns c = search (rules, application_read_lem)
