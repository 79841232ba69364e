use borrow.Author.Rules.{rules}
use Rattle.parse.proofs.Entering.{table_spread}
use Rattle.plan.proofs.Choosing.{name_is}
use Rattle.plan.proofs.choice.named.Goals as goal

pub text_needed-own-requires : goal.text_needed-own-requires
text_needed-own-requires c = search (rules, table_spread)

pub returns : goal.returns
returns c = search (rules, name_is)
