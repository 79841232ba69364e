use borrow.Author.Rules.{rules}
use Rattle.report.proofs.Lining.{device_line}
use Rattle.report.proofs.line.device.Goals as goal

pub returns : goal.returns
returns c = search (rules, device_line)
