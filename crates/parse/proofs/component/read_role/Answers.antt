use borrow.Author.Rules.{rules}
use Rattle.parse.proofs.Composing.{role_is}
use Rattle.parse.proofs.component.read_role.Goals as goal

pub returns : goal.returns
returns c = search (rules, role_is)
