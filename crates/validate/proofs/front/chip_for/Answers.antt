use borrow.Author.Rules.{rules}
use Rattle.meaning.specs.Rules.{chip_for}
use Rattle.validate.proofs.front.chip_for.Goals as goal

pub returns-then-holds : goal.returns-then-holds
unfolding chip_for
returns-then-holds c = search rules

pub returns-then-holds-2 : goal.returns-then-holds-2
unfolding chip_for
returns-then-holds-2 c = search rules

pub returns : goal.returns
unfolding chip_for
returns c = search rules
