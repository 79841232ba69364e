use borrow.Author.Rules.{rules}
use Rattle.layout.proofs.Checking.{on_blocks, check_none, check_off, check_judged_by}
use Rattle.layout.proofs.check_layout.Goals as goal

pub returns-then-is_empty : goal.returns-then-is_empty
returns-then-is_empty c = search (rules, check_none)

pub returns-then-items-ne0 : goal.returns-then-items-ne0
returns-then-items-ne0 c = search (rules, check_off)

pub marks_of-marks-requires : goal.marks_of-marks-requires
marks_of-marks-requires c = search (rules, on_blocks)

pub returns : goal.returns
returns c = search (rules, check_judged_by)
