use borrow.Author.Rules.{rules}
use Rattle.report.proofs.Lining.{part_line_lem}
use Rattle.report.proofs.line.part.Goals as goal

pub returns : goal.returns
returns c = search (rules, part_line_lem)
