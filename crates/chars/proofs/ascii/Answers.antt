use borrow.Author.Rules.{rules}
use Rattle.chars.proofs.Eights.{under_all}
use Rattle.chars.proofs.ascii.Goals as goal

pub returns : goal.returns
returns c = search (rules, under_all)
