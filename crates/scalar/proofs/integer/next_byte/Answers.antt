use Rattle.std.proofs.Common.{sym}
use Rattle.laws.specs.Parts.{rest_of}
use Rattle.scalar.proofs.Integers.{none_left, first_left}
use Rattle.scalar.proofs.integer.next_byte.Goals as goal

pub returns-in_err-i : goal.returns-in_err-i
returns-in_err-i c = rw c.from_residual.ensures (none_left c.args.s.now (sym c.in_err-i.ensures))

pub returns : goal.returns
returns c = rw (rest_of c.args.s.now) (first_left c.args.s.now c.in_ok-i.i (sym c.in_ok-i.ensures)).1
