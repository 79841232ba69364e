use Rattle.meaning.specs.Schema.{erase_for}
use Rattle.schema.specs.Words.{media_choice_lem}
use borrow.Author.Rules.{rules}
use Rattle.schema.proofs.Chip.erase_size.Goals as goal

pub returns : goal.returns
unfolding erase_for
returns c = search (rules, media_choice_lem)
