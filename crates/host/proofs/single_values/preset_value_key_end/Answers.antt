use Rattle.host.proofs.Keyed.{end_short, end_out, end_past, end_refused}
use borrow.Author.Rules.{rules}
use Rattle.host.proofs.single_values.preset_value_key_end.Goals as goal

pub returns-then-store-s : goal.returns-then-store-s
returns-then-store-s c = search (rules, end_short)

pub returns-in-Ok : goal.returns-in-Ok
returns-in-Ok c = search (rules, end_out)

pub returns-in_default : goal.returns-in_default
returns-in_default c = search (rules, end_past)

pub returns-in_default-2 : goal.returns-in_default-2
returns-in_default-2 c = search (rules, end_refused)
