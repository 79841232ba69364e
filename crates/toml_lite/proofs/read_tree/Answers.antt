use Rattle.toml_lite.proofs.Reading.{emptied, emptied_read}
use borrow.Author.Rules.{rules}
use Rattle.toml_lite.proofs.read_tree.Goals as goal

pub read_empty-requires : goal.read_empty-requires
read_empty-requires c = search (rules, emptied)

pub returns : goal.returns
returns c = search (rules, emptied_read)
