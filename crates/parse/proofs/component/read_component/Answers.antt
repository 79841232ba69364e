use borrow.Author.Rules.{rules}
use Rattle.parse.proofs.Composing.{component_is}
use Rattle.parse.proofs.component.read_component.Goals as goal

pub returns : goal.returns
returns c = search (rules, component_is)
