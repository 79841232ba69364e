use borrow.Author.Rules.{rules}
use Rattle.plan.proofs.Judging.{rules_refused, choice_told}
use Rattle.plan.proofs.judge_selection.Goals as goal

pub returns-then-v-ne0 : goal.returns-then-v-ne0
returns-then-v-ne0 c = search (rules, rules_refused)

pub returns : goal.returns
returns c = search (rules, choice_told)
