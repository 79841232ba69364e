use Rattle.std.proofs.Common.{rules}
use Rattle.scalar.proofs.Decoding.{lent}
use Rattle.scalar.proofs.string.put_string.Goals as goal

pub returns : goal.returns
returns c = search (rules, lent)
