use borrow.Author.Rules.{rules}
use Rattle.parse.proofs.Entering.{table_spread}
use Rattle.plan.proofs.Composing.{placed_is}
use Rattle.plan.proofs.component.placed.Goals as goal

pub text-own-requires : goal.text-own-requires
text-own-requires c = search (rules, table_spread)

pub returns : goal.returns
returns c = search (rules, placed_is)
