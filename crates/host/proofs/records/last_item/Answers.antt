use borrow.Author.Rules.{rules}
use Rattle.host.specs.Records.{last_item}
use Rattle.host.proofs.records.last_item.Goals as goal

pub returns : goal.returns
unfolding last_item
returns c = search rules
