use Rattle.std.proofs.Common.{◌<◌, length, arith}
use Rattle.laws.specs.Parts.{rest_of}
use Rattle.scalar.proofs.Splitting.{split_start, split_last, split_on, split_refused, split_over}
use Rattle.scalar.proofs.key.put_key.Goals as goal

pub loop-n-init : goal.loop-n-init
loop-n-init c = split_start _ _ _ _ c.requires

pub returns-in-Err : goal.returns-in-Err
returns-in-Err c = split_refused _ _ _ _ _ _ _ _ c.loop-n.invariant c.loop-n-test.true _ c.find-end.ensures _ _ c.put_segment.ensures _ c.in-Err.is

pub returns-then-end-rest : goal.returns-then-end-rest
returns-then-end-rest c =
    split_last _ _ _ _ _ _ _ _ c.loop-n.invariant c.loop-n-test.true _ c.find-end.ensures _ _ c.put_segment.ensures _ c.in-Ok.is (omega (arith, c.if-end-rest.true))

pub loop-n-preserved : goal.loop-n-preserved
loop-n-preserved c =
    let l : c.find-end.result < length c.loop-n.rest.now = omega (arith, c.find-end.ensures.fits, c.if-end-rest.false) in
    rw (rest_of c.loop-n.rest.now)
    (split_on _ _ _ _ _ _ _ _ c.loop-n.invariant c.loop-n-test.true _ c.find-end.ensures _ _ c.put_segment.ensures _ c.in-Ok.is l)

pub returns : goal.returns
returns c = split_over _ _ _ _ _ _ _ _ c.loop-n.invariant c.loop-n-test.false
