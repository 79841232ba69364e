use borrow.Author.Rules.{rules}
use Rattle.layout.proofs.Naming.{aim_none, aim_stored, aim_fixed}
use Rattle.layout.proofs.find_named.Goals as goal

pub returns-in-Stored : goal.returns-in-Stored
returns-in-Stored c = search (rules, aim_stored)

pub returns-in-Fixed : goal.returns-in-Fixed
returns-in-Fixed c = search (rules, aim_fixed)

pub returns-in_default : goal.returns-in_default
returns-in_default c = search (rules, aim_none)
