-- Where the first three bytes are a row the fourth decides, as in the definition, and elsewhere both say false.
use Rattle.chars.specs.Rows.{row4}
use Rattle.laws.specs.Tests.{calls}
use Rattle.chars.proofs.row4.Goals as goal

pub returns-then-row3 : goal.returns-then-row3
unfolding row4
returns-then-row3 c = search calls

pub returns-else-row3 : goal.returns-else-row3
unfolding row4
returns-else-row3 c = search calls
