-- The definition asks the same of the byte.
use Rattle.meaning.specs.Quote.{tally}
use Rattle.laws.specs.Tests.{calls}
use Rattle.text.proofs.tally.Goals as goal

pub returns-then-equals_outside : goal.returns-then-equals_outside
unfolding tally
returns-then-equals_outside c = search calls

pub returns-else-equals_outside : goal.returns-else-equals_outside
unfolding tally
returns-else-equals_outside c = search calls
