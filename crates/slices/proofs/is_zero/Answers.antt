use borrow.Author.Rules.{rules}
use Rattle.slices.proofs.Zeroing.{all_zero}
use Rattle.slices.proofs.is_zero.Goals as goal

pub returns : goal.returns
returns c = search (rules, all_zero)
