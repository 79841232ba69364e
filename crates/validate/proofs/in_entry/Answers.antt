use borrow.Author.Rules.{rules}
use Rattle.validate.specs.Faults.{in_entry}
use Rattle.validate.proofs.Judging.{in_some}
use Rattle.validate.proofs.in_entry.Goals as goal

pub returns-in-Ok : goal.returns-in-Ok
unfolding in_entry
returns-in-Ok c = search rules

pub returns-in-Err : goal.returns-in-Err
returns-in-Err c = search (rules, in_some)
