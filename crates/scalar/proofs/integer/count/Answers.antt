use Rattle.std.proofs.Common.{ap, ◌∙◌}
use Rattle.scalar.specs.Ints.{digits_of}
use Rattle.scalar.proofs.Integers.{count_over, count_on, count_stop, count_end}
use Rattle.scalar.proofs.integer.count.Goals as goal
use Rattle.scalar.proofs.integer.count.Goals.{then-b-ne95+in_ok-acc, else-b-ne95}

pub returns-in_err-acc : goal.returns-in_err-acc
returns-in_err-acc c =
    ap digits_of c.from_residual.ensures
    ∙ count_stop _ _ _ _ _ c.loop-b.invariant c.loop-b-test.true c.if-b-ne95.true _ c.add_digit.ensures c.in_err-acc.was

pub loop-b-preserved : goal.loop-b-preserved
loop-b-preserved c =
    elim c.if-b-ne95.branch [
      | then-b-ne95+in_ok-acc w ↦ rw w.acc-is (count_on _ _ _ _ _ c.loop-b.invariant c.loop-b-test.true w.if-b-ne95.true _ w.add_digit.ensures _ w.in_ok-acc.was)
      | else-b-ne95 w ↦ rw w.acc-is (count_over _ _ _ _ _ c.loop-b.invariant c.loop-b-test.true w.if-b-ne95.false)
    ]

pub returns : goal.returns
returns c = count_end _ _ _ _ _ c.loop-b.invariant c.loop-b-test.false
