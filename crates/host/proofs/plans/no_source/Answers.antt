use Rattle.host.proofs.Plotting.{source_none}
use borrow.Author.Rules.{rules}
use Rattle.host.proofs.plans.no_source.Goals as goal

pub returns : goal.returns
returns c = search (rules, source_none)
