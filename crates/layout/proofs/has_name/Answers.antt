use borrow.Author.Rules.{rules}
use Rattle.turns.proofs.Judging.{same_of}
use Rattle.layout.proofs.has_name.Goals as goal

pub returns : goal.returns
returns c = search (rules, same_of)
