use borrow.Author.Rules.{rules}
use Rattle.validate.specs.Clashes.{uses_beyond}
use Rattle.validate.proofs.uses.uses_beyond.Goals as goal

pub returns : goal.returns
unfolding uses_beyond
returns c = search rules
