use borrow.Author.Rules.{rules}
use Rattle.parse.proofs.Entering.{table_spread}
use Rattle.plan.proofs.Stemming.{lead_is, lead_not}
use Rattle.plan.proofs.stem.leads.Goals as goal

pub returns-then-not-placed : goal.returns-then-not-placed
returns-then-not-placed c = search (rules, lead_not)

pub kind-k-requires : goal.kind-k-requires
kind-k-requires c = search (rules, table_spread)

pub returns : goal.returns
returns c = search (rules, lead_is)
