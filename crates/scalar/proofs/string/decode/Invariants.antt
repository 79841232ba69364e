-- The bytes in the room, and then what the rest from i on says, are what the whole string says.
use Rattle.scalar.proofs.Decoding.{Reading}
use Rattle.scalar.proofs.string.decode.Given as goal

abbrev pub invariant-loop-i : goal.invariant-loop-i
invariant-loop-i l = Reading l.src l.initial.out l.out l.i l.written l.state
