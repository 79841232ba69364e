use borrow.Author.Rules.{rules}
use Rattle.plan.proofs.Composing.{payload_built, payload_file}
use Rattle.plan.proofs.component.payload.Goals as goal

pub returns-then-is_given : goal.returns-then-is_given
returns-then-is_given c = search (rules, payload_built)

pub returns : goal.returns
returns c = search (rules, payload_file)
