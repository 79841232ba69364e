use borrow.Author.Rules.{rules}
use Rattle.toml_lite.proofs.Reading.{stands_so}
use Rattle.toml_lite.proofs.stands.Goals.{then-text-le-TEXT_BYTES, else-text-le-TEXT_BYTES}
use Rattle.toml_lite.proofs.stands.Goals as goal

pub returns-then-clean : goal.returns-then-clean
returns-then-clean c = elim c.if-text-le-TEXT_BYTES.branch [ then-text-le-TEXT_BYTES w ↦ search (rules, stands_so) | else-text-le-TEXT_BYTES w ↦ search rules ]
