use borrow.Author.Rules.{rules}
use Rattle.toml_lite.proofs.Reading.{standing_begun, standing_read}
use Rattle.toml_lite.proofs.read_standing.Goals as goal

pub read_laid-requires : goal.read_laid-requires
read_laid-requires c = search (rules, standing_begun)

pub returns : goal.returns
returns c = search (rules, standing_read)
