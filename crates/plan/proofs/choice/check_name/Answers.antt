use borrow.Author.Rules.{rules}
use Rattle.plan.proofs.Choosing.{name_taken, name_free}
use Rattle.plan.proofs.choice.check_name.Goals as goal

pub returns-then-is_component_name : goal.returns-then-is_component_name
returns-then-is_component_name c = search (rules, name_taken)

pub returns : goal.returns
returns c = search (rules, name_free)
