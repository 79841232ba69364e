use borrow.Author.Rules.{rules}
use Rattle.parse.proofs.Composing.{lists_own, lists_same}
use Rattle.parse.proofs.component.read_lists.Goals as goal

pub returns-then-is_empty : goal.returns-then-is_empty
returns-then-is_empty c = search (rules, lists_same)

pub returns : goal.returns
returns c = search (rules, lists_own)
