use Rattle.preset.proofs.Settling.{read_rooms, read_settles, judged_on, read_refused}
use borrow.Author.Rules.{rules}
use Rattle.preset.proofs.judge_text.Goals as goal

pub invariant_of-rooms : goal.invariant_of-rooms
invariant_of-rooms c = record { fits = search (rules, read_rooms) }

pub clear_if_refused-requires : goal.clear_if_refused-requires
clear_if_refused-requires c = search (rules, read_settles)

pub returns-in-Ok : goal.returns-in-Ok
returns-in-Ok c = search (rules, judged_on)

pub returns-in-Err : goal.returns-in-Err
returns-in-Err c = search (rules, read_refused)
