use borrow.Author.Rules.{rules}
use Rattle.plan.proofs.Choosing.{key_is_lem}
use Rattle.plan.proofs.choice.has_key.Goals as goal

pub returns : goal.returns
returns c = search (rules, key_is_lem)
