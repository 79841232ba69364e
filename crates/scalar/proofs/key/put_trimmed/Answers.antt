use Rattle.std.proofs.Common.{◌≡◌, ◌≤◌, length, get_or, arith}
use borrow.Author.Tests.{ltb-true}
use Rattle.scalar.proofs.Segmenting.{trimmed_quoted, trimmed_bare}
use Rattle.scalar.proofs.key.put_trimmed.Goals as goal
use Rattle.scalar.proofs.key.put_trimmed.Goals.{in_default-via-then-p-lt1, in_default-via-else-p-lt1+in_default-1}

pub returns-in-34 : goal.returns-in-34
returns-in-34 c = trimmed_quoted _ _ _ _ _ (omega arith) c.put_quoted.ensures

pub returns-in_default : goal.returns-in_default
returns-in_default c =
    let none : 1 ≤ length c.args.p.now → get_or c.args.p.now 0 0 ≡ 34 → ⊥ =
    elim c.in_default.branch [ in_default-via-then-p-lt1 w ↦ λ l e. omega (arith, ltb-true) | in_default-via-else-p-lt1+in_default-1 w ↦ λ l e. omega arith ] in
    trimmed_bare _ _ _ _ _ none c.put_bare.ensures
