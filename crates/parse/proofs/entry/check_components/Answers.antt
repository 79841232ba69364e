use borrow.Author.Rules.{rules}
use Rattle.parse.proofs.Entering.{comps_few, comps_many}
use Rattle.parse.proofs.entry.check_components.Goals as goal

pub returns-then-most-n : goal.returns-then-most-n
returns-then-most-n c = search (rules, comps_many)

pub returns : goal.returns
returns c = search (rules, comps_few)
