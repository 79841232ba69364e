use Rattle.tree.proofs.Ranking.{stands_holds, above_at, above_all}
use borrow.Author.Rules.{rules}
use Rattle.tree.proofs.key_is_above.Goals as goal

pub get-w-requires : goal.get-w-requires
get-w-requires c = search (rules, stands_holds)

pub returns-in-Some : goal.returns-in-Some
returns-in-Some c = search (rules, above_at)

pub returns-in-None : goal.returns-in-None
returns-in-None c = search (rules, above_all)
