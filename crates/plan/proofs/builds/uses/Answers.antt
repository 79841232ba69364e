use borrow.Author.Rules.{rules}
use Rattle.plan.proofs.Building.{chosen_stood, used_room, uses_followed, uses_own, uses_undeclared, wanting}
use Rattle.plan.proofs.builds.uses.Goals as goal

pub each_component-u-requires : goal.each_component-u-requires
each_component-u-requires c = search (rules, wanting)

pub with_application-requires : goal.with_application-requires
with_application-requires c = search (rules, chosen_stood, used_room)

pub returns-in-BootChain : goal.returns-in-BootChain
returns-in-BootChain c = search (rules, uses_own)

pub returns-in-Undeclared : goal.returns-in-Undeclared
returns-in-Undeclared c = search (rules, uses_undeclared)

pub returns-in-At : goal.returns-in-At
returns-in-At c = search (rules, uses_followed)
