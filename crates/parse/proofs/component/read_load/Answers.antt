-- Each field is what its reader gives; the search enters too few records to find them all, so the last are named.
use borrow.Author.Rules.{rules}
use Rattle.parse.proofs.Composing.{load_is}
use Rattle.parse.proofs.component.read_load.Goals as goal

pub returns : goal.returns
returns c = search (rules, load_is, c.number-a.ensures)
