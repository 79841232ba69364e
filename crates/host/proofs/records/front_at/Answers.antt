use Rattle.parse.proofs.Judging.{root_spread}
use Rattle.host.proofs.Viewing.{front_told}
use borrow.Author.Rules.{rules}
use Rattle.host.proofs.records.front_at.Goals as goal

pub read_front-requires : goal.read_front-requires
read_front-requires c = search (rules, root_spread)

pub returns : goal.returns
returns c = search (rules, front_told)
