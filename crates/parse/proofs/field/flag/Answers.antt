use borrow.Author.Rules.{rules}
use Rattle.parse.proofs.Fielding.{flag_at_lem}
use Rattle.parse.proofs.field.flag.Goals as goal

pub returns : goal.returns
returns c = search (rules, flag_at_lem)
