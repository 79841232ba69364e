use borrow.Author.Rules.{rules}
use Rattle.parse.proofs.Fronting.{front_is}
use Rattle.parse.proofs.front.front_of.Goals as goal

pub returns : goal.returns
returns c = search (rules, front_is)
