use borrow.Author.Rules.{rules}
use Rattle.parse.proofs.Fronting.{chosen_first, chosen_second, chosen_none}
use Rattle.parse.proofs.front.chosen.Goals as goal

pub returns-in-Stored : goal.returns-in-Stored
returns-in-Stored c = search (rules, chosen_first)

pub returns-in-Stored-p : goal.returns-in-Stored-p
returns-in-Stored-p c = search (rules, chosen_second)

pub returns : goal.returns
returns c = search (rules, chosen_none)
