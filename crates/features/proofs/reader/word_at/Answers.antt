use borrow.Author.Rules.{rules}
use Rattle.features.proofs.Wording.{word_some, word_none}
use Rattle.features.proofs.reader.word_at.Goals as goal

pub returns-then-a-b : goal.returns-then-a-b
returns-then-a-b c = search (rules, word_some)

pub returns : goal.returns
returns c = search (rules, word_none)
