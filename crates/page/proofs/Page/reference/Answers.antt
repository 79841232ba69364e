use borrow.Author.Rules.{rules}
use Rattle.page.proofs.Writing.{dash_is, named_is}
use Rattle.page.proofs.Page.reference.Goals as goal

pub returns-then-blank : goal.returns-then-blank
returns-then-blank c = search (rules, dash_is)

pub returns-else-blank : goal.returns-else-blank
returns-else-blank c = search (rules, named_is)
