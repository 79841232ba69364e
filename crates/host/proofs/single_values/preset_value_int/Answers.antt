use Rattle.host.proofs.Valued.{int_told, int_refused}
use borrow.Author.Rules.{rules}
use Rattle.host.proofs.single_values.preset_value_int.Goals as goal

pub returns-in-Ok : goal.returns-in-Ok
returns-in-Ok c = search (rules, int_told)

pub returns-in-Err : goal.returns-in-Err
returns-in-Err c = search (rules, int_refused)
