use borrow.Author.Rules.{rules}
use Rattle.validate.proofs.Entering.{component_done}
use Rattle.validate.proofs.component.entry_of.Goals as goal

pub returns : goal.returns
returns c = search (rules, component_done)
