use borrow.Author.Rules.{rules}
use Rattle.validate.proofs.Gathering.{blank_is}
use Rattle.validate.proofs.gather.no_pairs.Goals as goal

pub returns : goal.returns
returns c = search (rules, blank_is)
