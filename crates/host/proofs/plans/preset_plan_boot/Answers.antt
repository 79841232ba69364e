use Rattle.host.proofs.Plotting.{boot_planned}
use borrow.Author.Rules.{rules}
use Rattle.host.proofs.plans.preset_plan_boot.Goals as goal

pub returns : goal.returns
returns c = search (rules, boot_planned)
