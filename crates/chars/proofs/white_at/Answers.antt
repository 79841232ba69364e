use borrow.Author.Rules.{rules}
use native.Mathlib.Omega.{arith}
use Rattle.chars.proofs.Spaces.{at_none, in_reach, at_white, at_plain}
use Rattle.chars.proofs.white_at.Goals as goal
use Rattle.chars.proofs.white_at.Goals.{else-n-gt0-via-then-n-gt0+else-white, else-n-gt0-via-else-n-gt0}

pub code_point-requires : goal.code_point-requires
code_point-requires c = in_reach _ _ c.width-n.ensures (λ z. omega arith)

pub returns-then-white : goal.returns-then-white
returns-then-white c = search (rules, at_white)

pub returns-else-n-gt0 : goal.returns-else-n-gt0
returns-else-n-gt0 c =
    elim c.else-n-gt0.branch [
      | else-n-gt0-via-then-n-gt0+else-white w ↦ search (rules, at_plain)
      | else-n-gt0-via-else-n-gt0 w ↦ at_none _ _ c.width-n.ensures (omega arith)
    ]
