-- No comma before i separates items, and the scan is that of the bytes before i.
use Rattle.values.proofs.Parting.{Parting}
use Rattle.values.proofs.splitting.item.Given as goal

abbrev pub invariant-loop-i : goal.invariant-loop-i
invariant-loop-i l = Parting l.s l.i l.scan
