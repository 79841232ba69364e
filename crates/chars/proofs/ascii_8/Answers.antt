use borrow.Author.Rules.{rules}
use Rattle.chars.proofs.Eights.{eight_of}
use Rattle.chars.proofs.ascii_8.Goals as goal

pub returns-then-s-i-ge8 : goal.returns-then-s-i-ge8
returns-then-s-i-ge8 c = search (rules, eight_of)
