use borrow.Author.Rules.{rules}
use Rattle.plan.specs.Builds.{build_at}
use Rattle.plan.proofs.builds.build_at.Goals as goal

pub returns : goal.returns
unfolding build_at
returns c = search rules
