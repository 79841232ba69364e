use Rattle.std.proofs.lemmas.Result.{err_from_is_err_and}
use Rattle.scalar.proofs.Integers.{some_left, no_some_left, no_digit_left, number_there, no_number}
use Rattle.scalar.proofs.integer.magnitude.Goals as goal

pub returns-then-is_none : goal.returns-then-is_none
returns-then-is_none c = no_digit_left c.args.s.now c.args.neg c.args.base (no_some_left c.args.s.now (rw (← c.skip.ensures) c.if-is_none.ensures))

pub returns-in_err-mag : goal.returns-in_err-mag
returns-in_err-mag c =
    let p = err_from_is_err_and c.from_residual.result c.from_residual.ensures.1 in
    rw (p.1, p.2)
    (no_number c.args.s.now c.args.neg c.args.base (some_left c.args.s.now (rw (← c.skip.ensures) c.if-is_none.ensures)) _ c.largest_magnitude.ensures
    _ c.count.ensures _ c.ok_or.ensures.value _ c.in_err-mag.was)

pub returns : goal.returns
returns c =
    number_there c.args.s.now c.args.neg c.args.base (some_left c.args.s.now (rw (← c.skip.ensures) c.if-is_none.ensures)) _ c.largest_magnitude.ensures
    _ c.count.ensures _ c.ok_or.ensures.value _ c.in_ok-mag.was
