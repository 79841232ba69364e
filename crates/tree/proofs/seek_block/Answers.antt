use Rattle.tree.proofs.Skipping.{seek_idle, seek_eight}
use borrow.Author.Rules.{rules}
use Rattle.tree.proofs.seek_block.Goals as goal

pub returns-then-none_under : goal.returns-then-none_under
returns-then-none_under c = search (rules, seek_idle)

pub returns : goal.returns
returns c = search (rules, seek_eight)
