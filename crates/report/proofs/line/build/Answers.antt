use borrow.Author.Rules.{rules}
use Rattle.report.proofs.Lining.{build_line_lem}
use Rattle.report.proofs.line.build.Goals as goal

pub returns : goal.returns
returns c = search (rules, build_line_lem)
