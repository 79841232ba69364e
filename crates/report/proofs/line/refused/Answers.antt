use borrow.Author.Rules.{rules}
use Rattle.report.proofs.Lining.{refused_line_lem}
use Rattle.report.proofs.line.refused.Goals as goal

pub returns : goal.returns
returns c = search (rules, refused_line_lem)
