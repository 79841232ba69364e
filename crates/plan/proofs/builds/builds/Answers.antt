use borrow.Author.Rules.{rules}
use Rattle.plan.proofs.Building.{builds_used}
use Rattle.plan.proofs.builds.builds.Goals as goal

pub returns : goal.returns
returns c = search (rules, builds_used)
