use Rattle.std.proofs.lemmas.Result.{err_from_is_err_and}
use Rattle.text.proofs.Whole.{too_long, not_utf8, read_fine, read_refused}
use Rattle.text.proofs.lines.Goals as goal

pub returns-then-limits-text : goal.returns-then-limits-text
returns-then-limits-text c = rw c.at_no_line.ensures (too_long _ _ _ c.if-limits-text.true)

pub returns-then-not-valid : goal.returns-then-not-valid
returns-then-not-valid c = rw c.at_no_line-then-not-valid.ensures (not_utf8 _ _ _ c.if-limits-text.false _ c.valid.ensures c.if-not-valid.true)

pub returns-in_err-lines : goal.returns-in_err-lines
returns-in_err-lines c = let p = err_from_is_err_and c.from_residual.result c.from_residual.ensures.1 in rw (p.1, p.2) (read_refused _ _ _ c.if-limits-text.false _ c.valid.ensures c.if-not-valid.false _ _ c.lay-used.ensures _ c.in_err-lines.ensures)

pub returns : goal.returns
returns c = read_fine _ _ _ c.if-limits-text.false _ c.valid.ensures c.if-not-valid.false _ _ c.lay-used.ensures _ c.in_ok-lines.ensures
