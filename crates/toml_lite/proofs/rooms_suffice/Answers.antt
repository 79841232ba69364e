use Rattle.toml_lite.proofs.Reading.{small_store, large_store}
use borrow.Author.Rules.{rules}
use Rattle.toml_lite.proofs.rooms_suffice.Goals as goal

pub returns-then-store-ge-TEXT_BYTES : goal.returns-then-store-ge-TEXT_BYTES
returns-then-store-ge-TEXT_BYTES c = search (rules, large_store)

pub returns-else-store-ge-TEXT_BYTES : goal.returns-else-store-ge-TEXT_BYTES
returns-else-store-ge-TEXT_BYTES c = search (rules, small_store)
