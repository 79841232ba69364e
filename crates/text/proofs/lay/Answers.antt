use borrow.Author.Rules.{rules}
use Rattle.text.proofs.Laying.{lends, lay_onward, lay_done}
use Rattle.text.proofs.lay.Goals as goal

pub lay_line-p-requires : goal.lay_line-p-requires
lay_line-p-requires c = search (rules, lends)

pub loop-rest-preserved : goal.loop-rest-preserved
loop-rest-preserved c = search (rules, lay_onward)

pub returns : goal.returns
returns c = search (rules, lay_done)
