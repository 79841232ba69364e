use borrow.Author.Rules.{rules}
use Rattle.parse.proofs.Fielding.{range_below, range_above, range_in}
use Rattle.parse.proofs.field.ranged.Goals as goal

pub returns-then-negative : goal.returns-then-negative
returns-then-negative c = search (rules, range_below)

pub returns-then-magnitude-gt-MOST_NUMBER : goal.returns-then-magnitude-gt-MOST_NUMBER
returns-then-magnitude-gt-MOST_NUMBER c = search (rules, range_above)

pub returns : goal.returns
returns c = search (rules, range_in)
