use borrow.Author.Rules.{rules}
use Rattle.turns.proofs.Judging.{same_of}
use Rattle.turns.proofs.same_name.Goals as goal

pub returns : goal.returns
returns c = search (rules, same_of)
