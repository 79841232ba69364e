use borrow.Author.Rules.{rules}
use Rattle.parse.proofs.Fronting.{chip_of_lem}
use Rattle.parse.proofs.front.chip_of.Goals as goal

pub returns : goal.returns
returns c = search (rules, chip_of_lem)
