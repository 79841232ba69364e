use borrow.Author.Rules.{rules}
use Rattle.values.proofs.Descending.{walk_on, walk_out}
use Rattle.values.proofs.grow.enter_path.Goals as goal

pub loop-end-preserved : goal.loop-end-preserved
loop-end-preserved c = search (rules, walk_on, c.in_ok-here.was)

pub returns : goal.returns
returns c = search (rules, walk_out)
