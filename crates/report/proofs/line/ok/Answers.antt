use borrow.Author.Rules.{rules}
use Rattle.report.proofs.Lining.{ok_line_lem}
use Rattle.report.proofs.line.ok.Goals as goal

pub returns : goal.returns
returns c = search (rules, ok_line_lem)
