use borrow.Author.Rules.{rules}
use Rattle.features.proofs.Choosing.{text_not}
use Rattle.features.proofs.is_text.Goals as goal

pub returns-in_default : goal.returns-in_default
returns-in_default c = search (rules, text_not)
