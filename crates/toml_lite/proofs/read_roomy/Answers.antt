use borrow.Author.Rules.{rules}
use Rattle.toml_lite.proofs.read_roomy.Goals as goal

pub read_standing-requires : goal.read_standing-requires
read_standing-requires c = search (rules, c.stands.ensures)
