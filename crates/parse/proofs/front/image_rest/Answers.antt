use borrow.Author.Rules.{rules}
use Rattle.parse.proofs.Fronting.{rest_is}
use Rattle.parse.proofs.front.image_rest.Goals as goal

pub returns : goal.returns
returns c = search (rules, rest_is)
