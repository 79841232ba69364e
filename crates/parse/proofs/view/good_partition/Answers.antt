use borrow.Author.Rules.{rules}
use Rattle.parse.specs.Views.{good_partition}
use Rattle.parse.proofs.view.good_partition.Goals as goal

pub returns : goal.returns
unfolding good_partition
returns c = search rules
