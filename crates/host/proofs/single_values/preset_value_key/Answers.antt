use Rattle.host.proofs.Keyed.{key_short, key_out, key_refused}
use borrow.Author.Rules.{rules}
use Rattle.host.proofs.single_values.preset_value_key.Goals as goal

pub returns-then-store-s : goal.returns-then-store-s
returns-then-store-s c = search (rules, key_short)

pub returns-in-Ok : goal.returns-in-Ok
returns-in-Ok c = search (rules, key_out)

pub returns-in-Err : goal.returns-in-Err
returns-in-Err c = search (rules, key_refused)
