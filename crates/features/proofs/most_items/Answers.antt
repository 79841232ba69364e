use borrow.Author.Rules.{rules}
use Rattle.features.proofs.Tallying.{bound_words}
use Rattle.features.proofs.most_items.Goals as goal

pub returns-in-Words : goal.returns-in-Words
returns-in-Words c = search (rules, bound_words)
