use Rattle.parse.proofs.Fronting.{table_spreads}
use Rattle.parse.proofs.Judging.{root_spread, device_is}
use borrow.Author.Rules.{rules}
use Rattle.parse.proofs.view.device_of.Goals as goal

pub table_at-b-requires : goal.table_at-b-requires
table_at-b-requires c = search (rules, root_spread)

pub table_at-i-requires : goal.table_at-i-requires
table_at-i-requires c = search (rules, root_spread)

pub chip_of-c-requires : goal.chip_of-c-requires
chip_of-c-requires c = search (rules, table_spreads)

pub media-m-requires : goal.media-m-requires
media-m-requires c = search (rules, table_spreads)

pub returns : goal.returns
returns c = search (rules, device_is)
