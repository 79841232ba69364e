use Rattle.host.proofs.Viewing.{load_shown}
use borrow.Author.Rules.{rules}
use Rattle.host.proofs.records.preset_component_load.Goals as goal

pub returns : goal.returns
returns c = search (rules, load_shown)
