use borrow.Author.Rules.{rules}
use Rattle.parse.proofs.Composing.{head_is}
use Rattle.parse.proofs.component.read_head.Goals as goal

pub returns : goal.returns
returns c = search (rules, head_is)
