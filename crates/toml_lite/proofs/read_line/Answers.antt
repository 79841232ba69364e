use Rattle.toml_lite.proofs.Lining.{line_done, line_does}
use borrow.Author.Rules.{rules}
use Rattle.toml_lite.proofs.read_line.Goals as goal

pub returns : goal.returns
returns c = search (rules, line_done, line_does)
