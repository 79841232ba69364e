use borrow.Author.Rules.{rules}
use Rattle.parse.proofs.Entering.{component_at_lem, table_spread}
use Rattle.parse.proofs.entry.component_at.Goals as goal

pub read_component-c-requires : goal.read_component-c-requires
read_component-c-requires c = search (rules, table_spread)

pub returns : goal.returns
returns c = search (rules, component_at_lem)
