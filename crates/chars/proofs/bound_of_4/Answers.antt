use borrow.Author.Rules.{rules}
use Rattle.chars.proofs.Eights.{most_of}
use Rattle.chars.proofs.bound_of_4.Goals as goal

pub returns : goal.returns
returns c = search (rules, most_of)
