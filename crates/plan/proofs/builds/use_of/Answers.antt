use borrow.Author.Rules.{rules}
use Rattle.plan.specs.Builds.{use_of}
use Rattle.plan.proofs.builds.use_of.Goals as goal

pub returns : goal.returns
unfolding use_of
returns c = search rules
