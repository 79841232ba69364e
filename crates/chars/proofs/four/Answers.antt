-- The three rows of UTF8-4 are tried in the definition's order: one that fits says true, and the last decides.
use Rattle.chars.specs.Rows.{four}
use Rattle.laws.specs.Tests.{calls}
use Rattle.chars.proofs.four.Goals as goal

pub returns-then-row4-2 : goal.returns-then-row4-2
unfolding four
returns-then-row4-2 c = search calls

pub returns-else-row4-2 : goal.returns-else-row4-2
unfolding four
returns-else-row4-2 c = search calls
