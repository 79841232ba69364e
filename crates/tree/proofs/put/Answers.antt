use Rattle.tree.proofs.Cells.{put_whole}
use borrow.Author.Rules.{rules}
use Rattle.tree.proofs.put.Goals as goal

pub returns : goal.returns
returns c = search (rules, put_whole)
