-- Where the first byte is in its range the second decides, as in the definition, and elsewhere both say false.
use Rattle.chars.specs.Rows.{row2}
use Rattle.laws.specs.Tests.{calls}
use Rattle.chars.proofs.row2.Goals as goal

pub returns-then-between : goal.returns-then-between
unfolding row2
returns-then-between c = search calls

pub returns-else-between : goal.returns-else-between
unfolding row2
returns-else-between c = search calls
