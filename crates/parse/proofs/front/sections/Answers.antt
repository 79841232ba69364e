use borrow.Author.Rules.{rules}
use Rattle.parse.proofs.Fronting.{sections_are}
use Rattle.parse.proofs.front.sections.Goals as goal

pub returns : goal.returns
returns c = search (rules, sections_are)
