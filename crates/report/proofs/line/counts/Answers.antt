use borrow.Author.Rules.{rules}
use Rattle.report.proofs.Lining.{counts_line}
use Rattle.report.proofs.line.counts.Goals as goal

pub returns : goal.returns
returns c = search (rules, counts_line)
