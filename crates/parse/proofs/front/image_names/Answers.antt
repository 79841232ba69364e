use borrow.Author.Rules.{rules}
use Rattle.parse.proofs.Fronting.{names_are}
use Rattle.parse.proofs.front.image_names.Goals as goal

pub returns : goal.returns
returns c = search (rules, names_are)
