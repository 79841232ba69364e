use Rattle.host.proofs.Viewing.{image_none}
use borrow.Author.Rules.{rules}
use Rattle.host.proofs.records.no_image.Goals as goal

pub returns : goal.returns
returns c = search (rules, image_none)
