-- The scan so far, carried over the rest, is the scan of the whole.
use Rattle.text.proofs.Scans.{Scanning}
use Rattle.text.proofs.scan.Given as goal

abbrev pub invariant-loop-b : goal.invariant-loop-b
invariant-loop-b l = Scanning l.s l.b-index l.x
