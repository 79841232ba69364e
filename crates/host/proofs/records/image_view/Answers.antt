use Rattle.host.proofs.Viewing.{image_refused, image_told}
use borrow.Author.Rules.{rules}
use Rattle.host.proofs.records.image_view.Goals as goal

pub returns-then-fault-ne0 : goal.returns-then-fault-ne0
returns-then-fault-ne0 c = search (rules, image_refused)

pub returns : goal.returns
returns c = search (rules, image_told)
