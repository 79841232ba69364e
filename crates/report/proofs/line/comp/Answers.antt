use borrow.Author.Rules.{rules}
use Rattle.report.proofs.Lining.{comp_line_lem}
use Rattle.report.proofs.line.comp.Goals as goal

pub returns : goal.returns
returns c = search (rules, comp_line_lem)
