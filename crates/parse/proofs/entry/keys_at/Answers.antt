use borrow.Author.Rules.{rules}
use Rattle.parse.proofs.Entering.{keys_at_lem}
use Rattle.parse.proofs.entry.keys_at.Goals as goal

pub returns : goal.returns
returns c = search (rules, keys_at_lem)
