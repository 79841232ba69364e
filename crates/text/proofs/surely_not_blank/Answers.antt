use borrow.Author.Rules.{rules}
use Rattle.text.proofs.Walking.{dark_ascii}
use Rattle.text.proofs.surely_not_blank.Goals as goal

pub returns-then-b-gt32 : goal.returns-then-b-gt32
returns-then-b-gt32 c = search (rules, dark_ascii)
