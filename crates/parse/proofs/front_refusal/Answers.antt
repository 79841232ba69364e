use Rattle.parse.proofs.Judging.{root_spread, front_root}
use borrow.Author.Rules.{rules}
use Rattle.parse.proofs.front_refusal.Goals as goal

pub read_front-f-requires : goal.read_front-f-requires
read_front-f-requires c = search (rules, root_spread)

pub returns : goal.returns
returns c = search (rules, front_root)
