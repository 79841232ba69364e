use Rattle.host.proofs.Viewing.{head_shown}
use borrow.Author.Rules.{rules}
use Rattle.host.proofs.records.preset_component_head.Goals as goal

pub returns : goal.returns
returns c = search (rules, head_shown)
