use Rattle.tree.proofs.Ranking.{stands_holds, nearer_at, nearer_all}
use borrow.Author.Rules.{rules}
use Rattle.tree.proofs.nearer.Goals as goal

pub get-w-requires : goal.get-w-requires
get-w-requires c = search (rules, stands_holds)

pub returns-in-Some : goal.returns-in-Some
returns-in-Some c = search (rules, nearer_at)

pub returns-in-None : goal.returns-in-None
returns-in-None c = search (rules, nearer_all)
