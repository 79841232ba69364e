use Rattle.parse.proofs.Judging.{root_spread, list_root}
use borrow.Author.Rules.{rules}
use Rattle.parse.proofs.view.component_list.Goals as goal

pub list_at-requires : goal.list_at-requires
list_at-requires c = search (rules, root_spread)

pub returns : goal.returns
returns c = search (rules, list_root)
