-- The two words are tried in the definition's order: one that fits gives its chip, and where neither does it is 22.
use Rattle.laws.specs.Tests.{calls}
use Rattle.schema.specs.Words.{chip_read}
use Rattle.schema.proofs.Chip.parse.Goals as goal

pub returns-then-is : goal.returns-then-is
unfolding chip_read
returns-then-is c = search calls

pub returns-then-is-2 : goal.returns-then-is-2
unfolding chip_read
returns-then-is-2 c = search calls

pub returns-else-is-2 : goal.returns-else-is-2
unfolding chip_read
returns-else-is-2 c = search calls
