use borrow.Author.Rules.{rules}
use Rattle.slices.proofs.Numbering.{laid}
use Rattle.slices.proofs.put_bytes.Goals as goal

pub returns : goal.returns
returns g c = search (rules, laid)
