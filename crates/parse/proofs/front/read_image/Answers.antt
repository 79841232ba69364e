use borrow.Author.Rules.{rules}
use Rattle.parse.proofs.Fronting.{image_is}
use Rattle.parse.proofs.front.read_image.Goals as goal

pub returns : goal.returns
returns c = search (rules, image_is)
