use Rattle.host.proofs.Viewing.{role_shown}
use borrow.Author.Rules.{rules}
use Rattle.host.proofs.records.preset_component_role.Goals as goal

pub returns : goal.returns
returns c = search (rules, role_shown)
