use Rattle.host.proofs.Viewing.{word_none, word_past, word_put}
use borrow.Author.Rules.{rules}
use Rattle.host.proofs.records.preset_word.Goals as goal

pub returns-then-word-eq0 : goal.returns-then-word-eq0
returns-then-word-eq0 c = search (rules, word_none)

pub returns-then-word-gt-WORDS : goal.returns-then-word-gt-WORDS
returns-then-word-gt-WORDS c = search (rules, word_past)

pub returns : goal.returns
returns c = search (rules, word_put)
