use borrow.Author.Rules.{rules}
use Rattle.plan.proofs.Choosing.{choice_stood, fault_of_lem}
use Rattle.plan.proofs.choice.check_selection.Goals as goal

pub check_name-requires : goal.check_name-requires
check_name-requires c = search (rules, choice_stood)

pub returns-in-BootChain : goal.returns-in-BootChain
returns-in-BootChain c = search (rules, fault_of_lem)

pub returns-in-Undeclared : goal.returns-in-Undeclared
returns-in-Undeclared c = search (rules, fault_of_lem)

pub returns-in-At : goal.returns-in-At
returns-in-At c = search (rules, fault_of_lem)
