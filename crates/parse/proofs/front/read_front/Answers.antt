use borrow.Author.Rules.{rules}
use Rattle.parse.proofs.Fronting.{table_spreads, front_read_lem}
use Rattle.parse.proofs.front.read_front.Goals as goal

pub front_of-requires : goal.front_of-requires
front_of-requires c = search (rules, table_spreads)

pub returns : goal.returns
returns c = search (rules, front_read_lem)
