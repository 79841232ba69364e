use borrow.Author.Rules.{rules}
use Rattle.parse.proofs.Entering.{table_spread}
use Rattle.plan.proofs.Building.{wanted_read}
use Rattle.plan.proofs.builds.wanted_at.Goals as goal

pub read_sources-s-requires : goal.read_sources-s-requires
read_sources-s-requires c = search (rules, table_spread)

pub read_lists-l-requires : goal.read_lists-l-requires
read_lists-l-requires c = search (rules, table_spread)

pub text-o-requires : goal.text-o-requires
text-o-requires c = search (rules, table_spread)

pub returns : goal.returns
returns c = search (rules, wanted_read)
