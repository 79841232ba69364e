-- The arm says which medium it is, and of that medium the definition computes to the same figure.
use Rattle.meaning.specs.Schema.{erase}
use borrow.Author.Rules.{rules}
use Rattle.schema.proofs.Media.erase_size.Goals as goal

pub returns-in-SpiNor : goal.returns-in-SpiNor
unfolding erase
returns-in-SpiNor c = search rules

pub returns-in-SpiNand : goal.returns-in-SpiNand
unfolding erase
returns-in-SpiNand c = search rules
