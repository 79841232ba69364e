use borrow.Author.Rules.{rules}
use Rattle.plan.proofs.Building.{build_found, build_none}
use Rattle.plan.proofs.builds.build.Goals as goal

pub returns-then-i-b : goal.returns-then-i-b
returns-then-i-b c = search (rules, build_found)

pub returns : goal.returns
returns c = search (rules, build_none)
