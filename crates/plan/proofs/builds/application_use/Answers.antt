use borrow.Author.Rules.{rules}
use Rattle.plan.proofs.Building.{application_read_lem}
use Rattle.plan.proofs.builds.application_use.Goals as goal

pub returns : goal.returns
returns c = search (rules, application_read_lem)
