use Rattle.std.proofs.lemmas.Result.{err_from_is_err_and}
use Rattle.toml_lite.proofs.Looping.{ahead_none, ahead_refused, ahead_fault, ahead_on}
use Rattle.toml_lite.proofs.read_lines.Goals as goal

pub returns-in_err-l : goal.returns-in_err-l
returns-in_err-l c =
    let p = err_from_is_err_and c.from_residual.result c.from_residual.ensures.1 in
    rw (p.1, p.2) (ahead_refused _ _ _ _ _ _ _ _ _ _ c.loop-l.invariant _ c.next_line.ensures _ c.in_err-l.was)

pub returns-in-Err : goal.returns-in-Err
returns-in-Err c =
    let e = rw c.in-Some.is at c.in_ok-l.was in
    ahead_fault _ _ _ _ _ _ _ _ _ _ c.loop-l.invariant _ c.next_line.ensures _ e _ _ _ c.read_line.ensures _ _ c.in-Err.is c.first_fault.ensures

pub loop-l-preserved : goal.loop-l-preserved
loop-l-preserved c =
    let e = rw c.in-Some.is at c.in_ok-l.was in
    ahead_on _ _ _ _ _ _ _ _ _ _ c.loop-l.invariant _ c.next_line.ensures _ e _ _ _ c.read_line.ensures _ c.in-Ok.is

pub returns : goal.returns
returns c =
    let e = rw c.in_default.is at c.in_ok-l.was in
    ahead_none _ _ _ _ _ _ _ _ _ _ c.loop-l.invariant _ c.next_line.ensures e
