use borrow.Author.Rules.{rules}
use Rattle.parse.proofs.Judging.{lists_are}
use Rattle.parse.proofs.view.lists_of.Goals as goal

pub returns : goal.returns
returns c = search (rules, lists_are)
