-- The two words are tried in the definition's order: one that fits gives its medium, and where neither does it is 22.
use Rattle.laws.specs.Tests.{calls}
use Rattle.schema.specs.Words.{media_read}
use Rattle.schema.proofs.Media.parse.Goals as goal

pub returns-then-is : goal.returns-then-is
unfolding media_read
returns-then-is c = search calls

pub returns-then-is-2 : goal.returns-then-is-2
unfolding media_read
returns-then-is-2 c = search calls

pub returns-else-is-2 : goal.returns-else-is-2
unfolding media_read
returns-else-is-2 c = search calls
