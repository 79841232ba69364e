use borrow.Author.Rules.{rules}
use Rattle.parse.proofs.Judging.{root_spread}
use Rattle.validate.proofs.Judging.{all_told, front_fronted, front_told}
use Rattle.validate.proofs.judge_rules.Goals as goal

pub read_front-f-requires : goal.read_front-f-requires
read_front-f-requires c = search (rules, root_spread)

pub returns-then-f-ne0 : goal.returns-then-f-ne0
returns-then-f-ne0 c = search (rules, front_told)

pub check_front-rules-requires : goal.check_front-rules-requires
check_front-rules-requires c = search (rules, front_fronted)

pub returns : goal.returns
returns c = search (rules, all_told)
