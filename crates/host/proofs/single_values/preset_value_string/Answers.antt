use Rattle.host.proofs.Valued.{too_short, string_out_lem, string_refused}
use borrow.Author.Rules.{rules}
use Rattle.host.proofs.single_values.preset_value_string.Goals as goal

pub returns-then-out-src : goal.returns-then-out-src
returns-then-out-src c = search (rules, too_short)

pub returns-in-Ok : goal.returns-in-Ok
returns-in-Ok c = search (rules, string_out_lem)

pub returns-in-Err : goal.returns-in-Err
returns-in-Err c = search (rules, string_refused)
