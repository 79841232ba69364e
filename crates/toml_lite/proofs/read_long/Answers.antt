use Rattle.toml_lite.proofs.Reading.{long_ready, limits_01}
use borrow.Author.Rules.{rules}
use Rattle.toml_lite.proofs.read_long.Goals as goal

pub read_text-requires : goal.read_text-requires
read_text-requires c = search (rules, long_ready)

pub returns : goal.returns
returns c = search (rules, limits_01)
