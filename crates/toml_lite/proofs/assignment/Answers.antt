use Rattle.toml_lite.proofs.Lining.{assignment_done, assignment_does}
use borrow.Author.Rules.{rules}
use Rattle.toml_lite.proofs.assignment.Goals as goal

pub returns : goal.returns
returns c = search (rules, assignment_done, assignment_does)
