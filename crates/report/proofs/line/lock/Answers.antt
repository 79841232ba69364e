use borrow.Author.Rules.{rules}
use Rattle.report.proofs.Lining.{is_locked, is_open}
use Rattle.report.proofs.line.lock.Goals as goal

pub returns-then-locked : goal.returns-then-locked
returns-then-locked c = search (rules, is_locked)

pub returns-else-locked : goal.returns-else-locked
returns-else-locked c = search (rules, is_open)
