use borrow.Author.Rules.{rules}
use Rattle.validate.proofs.Gathering.{fault_here, fault_none, fault_so_far}
use Rattle.validate.proofs.gather.earlier_in.Goals as goal

pub returns-then-fault-ne0 : goal.returns-then-fault-ne0
returns-then-fault-ne0 c = search (rules, fault_so_far)

pub returns-then-number-eq0 : goal.returns-then-number-eq0
returns-then-number-eq0 c = search (rules, fault_none)

pub returns : goal.returns
returns c = search (rules, fault_here)
