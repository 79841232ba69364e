use borrow.Author.Rules.{rules}
use Rattle.report.proofs.Lining.{stem_line_lem}
use Rattle.report.proofs.line.stem.Goals as goal

pub returns : goal.returns
returns c = search (rules, stem_line_lem)
