use borrow.Author.Rules.{rules}
use native.Mathlib.Omega.{arith}
use Rattle.chars.proofs.Spaces.{end_first, end_never}
use Rattle.chars.proofs.white_end.Goals as goal

pub returns-then-ends_in : goal.returns-then-ends_in
returns-then-ends_in c = end_first _ _ (omega arith) (omega arith) c.loop-k.invariant (search rules)

pub returns : goal.returns
returns c = search (rules, end_never)
