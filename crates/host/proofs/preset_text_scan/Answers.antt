use Rattle.host.proofs.Scanning.{scan_out}
use borrow.Author.Rules.{rules}
use Rattle.host.proofs.preset_text_scan.Goals as goal

pub returns : goal.returns
returns c = search (rules, scan_out)
