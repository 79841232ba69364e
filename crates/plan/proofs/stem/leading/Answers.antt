use borrow.Author.Rules.{rules}
use Rattle.parse.proofs.Entering.{table_spread}
use Rattle.plan.proofs.Stemming.{leading_is}
use Rattle.plan.proofs.stem.leading.Goals as goal

pub read_sources-s-requires : goal.read_sources-s-requires
read_sources-s-requires c = search (rules, table_spread)

pub returns : goal.returns
returns c = search (rules, leading_is)
