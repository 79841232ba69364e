use borrow.Author.Rules.{rules}
use Rattle.validate.specs.Entries.{late_checked}
use Rattle.validate.proofs.component.check_late.Goals as goal

pub returns-in_err-check_name : goal.returns-in_err-check_name
unfolding late_checked
returns-in_err-check_name c = search rules

pub returns-in_err-check_source : goal.returns-in_err-check_source
unfolding late_checked
returns-in_err-check_source c = search rules

pub returns-in_err-check_boot : goal.returns-in_err-check_boot
unfolding late_checked
returns-in_err-check_boot c = search rules

pub returns-in_err-check_target : goal.returns-in_err-check_target
unfolding late_checked
returns-in_err-check_target c = search rules

pub returns : goal.returns
unfolding late_checked
returns c = search rules
