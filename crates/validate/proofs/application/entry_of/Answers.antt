use borrow.Author.Rules.{rules}
use Rattle.validate.specs.Entries.{application_entry}
use Rattle.validate.proofs.application.entry_of.Goals as goal

pub returns : goal.returns
unfolding application_entry
returns c = search rules
