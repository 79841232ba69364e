use Rattle.toml_lite.proofs.Reading.{too_small, rooms_ready, text_read_lem}
use borrow.Author.Rules.{rules}
use Rattle.toml_lite.proofs.read_empty.Goals as goal

pub read_roomy-requires : goal.read_roomy-requires
read_roomy-requires c = search (rules, rooms_ready)

pub returns-then-rooms_suffice : goal.returns-then-rooms_suffice
returns-then-rooms_suffice c = search (rules, text_read_lem)

pub returns : goal.returns
returns c = search (rules, too_small)
