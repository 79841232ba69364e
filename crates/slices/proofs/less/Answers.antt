use borrow.Author.Rules.{rules}
use Rattle.slices.proofs.Bytes.{less_told}
use Rattle.slices.proofs.less.Goals as goal

pub returns : goal.returns
returns c = search (rules, less_told)
