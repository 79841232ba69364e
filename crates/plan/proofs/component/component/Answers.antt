use borrow.Author.Rules.{rules}
use Rattle.plan.proofs.Composing.{chain_is, chosen_is, chosen_stood}
use Rattle.plan.proofs.component.component.Goals as goal

pub composed-requires : goal.composed-requires
composed-requires c = search (rules, chosen_stood)

pub returns-in-BootChain : goal.returns-in-BootChain
returns-in-BootChain c = search (rules, chain_is)

pub returns-in-At : goal.returns-in-At
returns-in-At c = search (rules, chosen_is)
