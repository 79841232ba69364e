use Rattle.parse.proofs.Judging.{root_spread, keys_root}
use borrow.Author.Rules.{rules}
use Rattle.parse.proofs.view.application_list.Goals as goal

pub keys_at-requires : goal.keys_at-requires
keys_at-requires c = search (rules, root_spread)

pub returns : goal.returns
returns c = search (rules, keys_root)
