use borrow.Author.Rules.{rules}
use Rattle.text.proofs.Runs.{bare_quiet, held_quiet}
use Rattle.text.proofs.may_leave_out.Goals as goal

pub returns-in-Outside : goal.returns-in-Outside
returns-in-Outside c = search (rules, bare_quiet)

pub returns-in-Inside : goal.returns-in-Inside
returns-in-Inside c = search (rules, held_quiet)
