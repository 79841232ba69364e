use borrow.Author.Rules.{rules}
use Rattle.chars.proofs.Ends.{dark_so}
use Rattle.chars.proofs.surely_no_space.Goals as goal

pub returns-then-b-gt32 : goal.returns-then-b-gt32
returns-then-b-gt32 c = search (rules, dark_so)
