use Rattle.preset.proofs.Settling.{read_judged, validate_judged, plan_judged}
use borrow.Author.Rules.{rules}
use Rattle.preset.proofs.judge_rooms.Goals as goal

pub returns-in-Read : goal.returns-in-Read
returns-in-Read c = search (rules, read_judged)

pub returns-in-Validate : goal.returns-in-Validate
returns-in-Validate c = search (rules, validate_judged)

pub returns-in-Plan : goal.returns-in-Plan
returns-in-Plan c = search (rules, plan_judged)
