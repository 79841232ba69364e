use borrow.Author.Rules.{rules}
use Rattle.meaning.specs.Quoting.{letter_for}
use Rattle.page.proofs.Quotes.{is_plain}
use Rattle.page.proofs.quote.letter.Goals as goal

pub returns-in-34 : goal.returns-in-34
unfolding letter_for
returns-in-34 c = search rules

pub returns-in-92 : goal.returns-in-92
unfolding letter_for
returns-in-92 c = search rules

pub returns-in-10 : goal.returns-in-10
unfolding letter_for
returns-in-10 c = search rules

pub returns-in-9 : goal.returns-in-9
unfolding letter_for
returns-in-9 c = search rules

pub returns-in-13 : goal.returns-in-13
unfolding letter_for
returns-in-13 c = search rules

pub returns-in_default : goal.returns-in_default
returns-in_default c = search (rules, is_plain)
