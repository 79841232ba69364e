use borrow.Author.Rules.{rules}
use Rattle.report.proofs.Lining.{app_line_lem}
use Rattle.report.proofs.line.app.Goals as goal

pub returns : goal.returns
returns c = search (rules, app_line_lem)
