use Rattle.toml_lite.proofs.Reading.{fault_alone, fault_sooner}
use borrow.Author.Rules.{rules}
use Rattle.toml_lite.proofs.first_fault.Goals as goal

pub returns-in-Ok : goal.returns-in-Ok
returns-in-Ok c = search (rules, fault_alone)

pub returns-in-Err : goal.returns-in-Err
returns-in-Err c = search (rules, fault_sooner)
