-- The four rows of UTF8-3 are tried in the definition's order: one that fits says true, and the last decides.
use Rattle.chars.specs.Rows.{three}
use Rattle.laws.specs.Tests.{calls}
use Rattle.chars.proofs.three.Goals as goal

pub returns-then-row3-3 : goal.returns-then-row3-3
unfolding three
returns-then-row3-3 c = search calls

pub returns-else-row3-3 : goal.returns-else-row3-3
unfolding three
returns-else-row3-3 c = search calls
