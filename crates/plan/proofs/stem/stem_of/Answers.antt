use borrow.Author.Rules.{rules}
use Rattle.plan.proofs.Stemming.{stem_stored, stem_none}
use Rattle.plan.proofs.stem.stem_of.Goals as goal

pub returns-in-Stored : goal.returns-in-Stored
returns-in-Stored c = search (rules, stem_stored)

pub returns-in_default : goal.returns-in_default
returns-in_default c = search (rules, stem_none)
