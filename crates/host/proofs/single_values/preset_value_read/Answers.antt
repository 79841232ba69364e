-- Zeroing keeps the lengths, so rooms without a fault of size are ready for a value, and are zero again after a fault.
use Rattle.host.proofs.Readouts.{size_refused, read_out, fault_out, ready}
use borrow.Author.Rules.{rules}
use Rattle.host.proofs.single_values.preset_value_read.Goals as goal

pub returns-then-n-ne0 : goal.returns-then-n-ne0
returns-then-n-ne0 c = search (rules, size_refused)

pub returns-in-Ok : goal.returns-in-Ok
returns-in-Ok c = search (rules, read_out)

pub returns-in-Err : goal.returns-in-Err
returns-in-Err c = search (rules, fault_out)

pub value-requires : goal.value-requires
value-requires c = ready _ _ _ _ c.size_fault-n.ensures c.if-n-ne0.false
