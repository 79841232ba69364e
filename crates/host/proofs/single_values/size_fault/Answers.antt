use Rattle.host.proofs.Readouts.{fault_long, fault_none, fault_rooms}
use borrow.Author.Rules.{rules}
use Rattle.host.proofs.single_values.size_fault.Goals as goal

pub returns-then-text-gt-TEXT_BYTES : goal.returns-then-text-gt-TEXT_BYTES
returns-then-text-gt-TEXT_BYTES c = search (rules, fault_long)

pub returns-then-rooms_suffice : goal.returns-then-rooms_suffice
returns-then-rooms_suffice c = search (rules, fault_none)

pub returns : goal.returns
returns c = search (rules, fault_rooms)
