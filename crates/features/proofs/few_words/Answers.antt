use Rattle.features.proofs.Choosing.{words_many, words_few}
use borrow.Author.Rules.{rules}
use Rattle.features.proofs.few_words.Goals as goal

pub returns-then-limit-words : goal.returns-then-limit-words
returns-then-limit-words c = search (rules, words_many)

pub returns : goal.returns
returns c = search (rules, words_few)
