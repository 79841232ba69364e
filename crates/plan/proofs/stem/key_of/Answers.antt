use borrow.Author.Rules.{rules}
use Rattle.plan.proofs.Stemming.{key_text}
use Rattle.plan.proofs.stem.key_of.Goals as goal

pub returns : goal.returns
returns c = search (rules, key_text)
