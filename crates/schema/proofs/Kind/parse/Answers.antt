-- The three words are tried in the definition's order: one that fits gives its kind, and where none does it is 22.
use Rattle.laws.specs.Tests.{calls}
use Rattle.schema.specs.Words.{kind_read}
use Rattle.schema.proofs.Kind.parse.Goals as goal

pub returns-then-is : goal.returns-then-is
unfolding kind_read
returns-then-is c = search calls

pub returns-then-is-2 : goal.returns-then-is-2
unfolding kind_read
returns-then-is-2 c = search calls

pub returns-then-is-3 : goal.returns-then-is-3
unfolding kind_read
returns-then-is-3 c = search calls

pub returns-else-is-3 : goal.returns-else-is-3
unfolding kind_read
returns-else-is-3 c = search calls
