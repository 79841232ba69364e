-- The second byte is asked where the first is in range, the third where both are; else code and definition say false.
use Rattle.chars.specs.Rows.{row3}
use Rattle.laws.specs.Tests.{calls}
use Rattle.chars.proofs.row3.Goals as goal

pub returns-then-between-2 : goal.returns-then-between-2
unfolding row3
returns-then-between-2 c = search calls

pub returns-else-between-2 : goal.returns-else-between-2
unfolding row3
returns-else-between-2 c = search calls
