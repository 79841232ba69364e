use Rattle.host.proofs.Viewing.{counts_told}
use borrow.Author.Rules.{rules}
use Rattle.host.proofs.records.preset_counts.Goals as goal

pub returns : goal.returns
returns c = search (rules, counts_told)
