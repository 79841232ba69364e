use borrow.Author.Rules.{rules}
use Rattle.chars.proofs.Widths.{none, one_byte, two_bytes, three_bytes, four_bytes, no_bytes}
use Rattle.chars.proofs.width.Goals as goal

pub returns-then-s-eq0 : goal.returns-then-s-eq0
returns-then-s-eq0 c = search (rules, none)

pub returns-then-between : goal.returns-then-between
returns-then-between c = search (rules, one_byte)

pub returns-then-row2 : goal.returns-then-row2
returns-then-row2 c = search (rules, two_bytes)

pub returns-then-three : goal.returns-then-three
returns-then-three c = search (rules, three_bytes)

pub returns-then-four : goal.returns-then-four
returns-then-four c = search (rules, four_bytes)

pub returns-else-four : goal.returns-else-four
returns-else-four c = search (rules, no_bytes)
