use Rattle.plan.proofs.Stemming.{standing_stood, stem_is}
use borrow.Author.Rules.{rules}
use Rattle.plan.proofs.stem.stem.Goals as goal

pub key_of-requires : goal.key_of-requires
key_of-requires c = search (rules, standing_stood)

pub returns-in-BootChain : goal.returns-in-BootChain
returns-in-BootChain c = search (rules, stem_is)

pub returns-in-Undeclared : goal.returns-in-Undeclared
returns-in-Undeclared c = search (rules, stem_is)

pub returns-in-At : goal.returns-in-At
returns-in-At c = search (rules, stem_is)
