use borrow.Author.Rules.{rules}
use Rattle.slices.proofs.Bytes.{same_told}
use Rattle.slices.proofs.same.Goals as goal

pub returns : goal.returns
returns c = search (rules, same_told)
