use borrow.Author.Rules.{rules}
use Rattle.meaning.specs.Rules.{name_of}
use Rattle.layout.proofs.partition_name.Goals as goal

pub returns : goal.returns
unfolding name_of
returns c = search rules
