use borrow.Author.Rules.{rules}
use native.Mathlib.Omega.{arith}
use Rattle.text.proofs.Scans.{scan_on, scan_end}
use Rattle.text.proofs.scan.Goals as goal

pub step-x-requires : goal.step-x-requires
step-x-requires c = omega arith

pub loop-b-preserved : goal.loop-b-preserved
loop-b-preserved c = search (rules, scan_on)

pub returns : goal.returns
returns c = search (rules, scan_end)
