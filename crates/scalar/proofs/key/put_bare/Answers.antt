use Rattle.std.proofs.Common.{sym}
use Rattle.scalar.proofs.Segmenting.{copied, bare_empty, bare_fine}
use Rattle.scalar.proofs.key.put_bare.Goals as goal

pub returns-then-is_empty : goal.returns-then-is_empty
returns-then-is_empty c = rw c.malformed.ensures (bare_empty _ _ _ (sym c.if-is_empty.ensures))

pub returns : goal.returns
returns c = bare_fine _ _ _ _ (sym c.if-is_empty.ensures) (copied _ _ _ _ c.copy.ensures)
