use borrow.Author.Rules.{rules}
use Rattle.parse.proofs.Applying.{application_is}
use Rattle.parse.proofs.application.read_application.Goals as goal

pub returns : goal.returns
returns c = search (rules, application_is)
