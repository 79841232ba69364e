use borrow.Author.Rules.{rules}
use Rattle.parse.proofs.Entering.{fault_here, fault_none, fault_so_far}
use Rattle.parse.proofs.entry.earlier_application.Goals as goal

pub returns-then-fault-ne0 : goal.returns-then-fault-ne0
returns-then-fault-ne0 c = search (rules, fault_so_far)

pub returns-then-a-ne0 : goal.returns-then-a-ne0
returns-then-a-ne0 c = search (rules, fault_here)

pub returns : goal.returns
returns c = search (rules, fault_none)
