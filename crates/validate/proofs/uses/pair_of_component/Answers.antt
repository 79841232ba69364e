use borrow.Author.Rules.{rules}
use Rattle.validate.proofs.Pairing.{pair_same, pair_apart}
use Rattle.validate.proofs.uses.pair_of_component.Goals as goal

pub returns-then-same_text : goal.returns-then-same_text
returns-then-same_text c = search (rules, pair_same)

pub returns-else-same_text : goal.returns-else-same_text
returns-else-same_text c = search (rules, pair_apart)
