use borrow.Author.Rules.{rules}
use Rattle.validate.proofs.Entering.{component_read_lem}
use Rattle.validate.proofs.component.entry.Goals as goal

pub returns : goal.returns
returns c = search (rules, component_read_lem)
