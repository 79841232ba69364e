use Rattle.std.proofs.Common.{◌≡◌, ◌≤◌, length, arith}
use Rattle.std.proofs.lemmas.Result.{err_from_is_err_and}
use Rattle.meaning.specs.Base.{final}
use borrow.Author.Tests.{ltb-true}
use Rattle.scalar.proofs.Segmenting.{quoted_refused, quoted_fine, quoted_malformed}
use Rattle.scalar.proofs.key.put_quoted.Goals as goal
use Rattle.scalar.proofs.key.put_quoted.Goals.{in_default-via-then-p-lt1, in_default-via-in-34+else-written-ne0, in_default-via-else-p-lt1+in_default-1}

pub returns-in_err-written : goal.returns-in_err-written
returns-in_err-written c =
    let p = err_from_is_err_and c.from_residual.result c.from_residual.ensures.1 in
    rw (p.1, p.2) (quoted_refused _ _ _ _ _ c.put_string.ensures _ c.in_err-written.was)

pub returns-in-34 : goal.returns-in-34
returns-in-34 c = quoted_fine _ _ _ _ _ c.put_string.ensures _ c.in_ok-written.was (omega arith) c.if-written-ne0.true

pub returns-in_default : goal.returns-in_default
returns-in_default c =
    let none : 1 ≤ length c.args.p.now → final c.args.p.now ≡ 34 → c.in_ok-written.field-0.written ≡ 0 =
    elim c.in_default.branch [
      | in_default-via-then-p-lt1 w ↦ λ l e. absurd (omega (arith, ltb-true))
      | in_default-via-in-34+else-written-ne0 w ↦ λ l e. w.if-written-ne0.false
      | in_default-via-else-p-lt1+in_default-1 w ↦ λ l e. absurd (omega arith)
    ] in
    rw c.malformed.ensures (quoted_malformed _ _ _ _ _ c.put_string.ensures _ c.in_ok-written.was none)
