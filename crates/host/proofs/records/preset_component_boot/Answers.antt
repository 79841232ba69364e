use Rattle.host.proofs.Viewing.{boot_shown}
use borrow.Author.Rules.{rules}
use Rattle.host.proofs.records.preset_component_boot.Goals as goal

pub returns : goal.returns
returns c = search (rules, boot_shown)
