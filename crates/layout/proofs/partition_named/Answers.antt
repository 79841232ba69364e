use borrow.Author.Rules.{rules}
use Rattle.layout.proofs.Naming.{found_low, found_here, found_none}
use Rattle.layout.proofs.partition_named.Goals as goal

pub returns-in_err-at : goal.returns-in_err-at
returns-in_err-at c = search (rules, found_none)

pub bounds-items-at : goal.bounds-items-at
bounds-items-at c = search (rules, found_low)

pub returns : goal.returns
returns c = search (rules, found_here)
