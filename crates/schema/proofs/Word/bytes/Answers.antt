use borrow.Author.Rules.{rules}
use Rattle.schema.proofs.Wording.{word_is}
use Rattle.schema.proofs.Word.bytes.Goals as goal

pub returns : goal.returns
returns c = search (rules, word_is)
