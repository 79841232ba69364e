use borrow.Author.Rules.{rules}
use Rattle.chars.proofs.Spaces.{both}
use Rattle.chars.proofs.trim_wide.Goals as goal

pub returns : goal.returns
returns c = search (rules, both)
