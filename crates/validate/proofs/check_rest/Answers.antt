use borrow.Author.Rules.{rules}
use Rattle.validate.specs.Faults.{gathered_fault}
use Rattle.validate.proofs.check_rest.Goals as goal

pub returns : goal.returns
unfolding gathered_fault
returns c = search rules
