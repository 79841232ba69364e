use borrow.Author.Rules.{rules}
use Rattle.validate.proofs.Judging.{length_few, length_many}
use Rattle.validate.proofs.check_length.Goals as goal

pub returns-then-n-gt-COMPONENTS : goal.returns-then-n-gt-COMPONENTS
returns-then-n-gt-COMPONENTS c = search (rules, length_many)

pub returns : goal.returns
returns c = search (rules, length_few)
