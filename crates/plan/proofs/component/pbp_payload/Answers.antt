use borrow.Author.Rules.{rules}
use Rattle.plan.proofs.Composing.{pbp_built, pbp_file, pbp_none}
use Rattle.plan.proofs.component.pbp_payload.Goals as goal

pub returns-then-is_given : goal.returns-then-is_given
returns-then-is_given c = search (rules, pbp_file)

pub returns-then-is_given-2 : goal.returns-then-is_given-2
returns-then-is_given-2 c = search (rules, pbp_built)

pub returns : goal.returns
returns c = search (rules, pbp_none)
