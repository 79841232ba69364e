-- A base is below what stands for no digit, and a product or a sum that u64 does not hold is over every limit.
use Rattle.std.proofs.Common.{◌≡◌, ◌+◌, ◌*◌, ap, ◌∙◌, arith}
use Rattle.meaning.specs.Integers.{digit}
use Rattle.scalar.specs.Ints.{digits_of}
use Rattle.scalar.proofs.Integers.{more_stray, more_over, more_fits}
use Rattle.scalar.proofs.integer.add_digit.Goals as goal

pub returns-in_err-digit : goal.returns-in_err-digit
returns-in_err-digit c = ap digits_of c.from_residual.ensures ∙ more_stray _ _ _ _ (omega (arith, c.in_err-digit.ensures))

pub returns-then-base-d : goal.returns-then-base-d
returns-then-base-d c = more_stray _ _ _ _ (omega (arith, c.in_ok-digit.ensures))

pub returns-in_err-checked_mul : goal.returns-in_err-checked_mul
returns-in_err-checked_mul c =
    ap digits_of c.from_residual-in_err-checked_mul.ensures ∙ more_over _ _ _ _ (omega (arith, c.in_err-checked_mul.ensures))

pub returns-in_err-n : goal.returns-in_err-n
returns-in_err-n c =
    ap digits_of c.from_residual-in_err-n.ensures
    ∙ more_over _ _ _ _ (omega (arith, c.in_ok-digit.ensures, c.in_ok-checked_mul.ensures, c.in_err-n.ensures))

pub returns-then-n-limit : goal.returns-then-n-limit
returns-then-n-limit c =
    let e : c.in_ok-n.n ≡ c.args.acc * c.args.base + digit c.args.b =
    omega (arith, c.in_ok-digit.ensures, c.in_ok-checked_mul.ensures, c.in_ok-n.ensures) in
    rw e (more_fits _ _ _ _ (omega (arith, c.in_ok-digit.ensures)) (omega (arith, e)))

pub returns-else-n-limit : goal.returns-else-n-limit
returns-else-n-limit c =
    more_over _ _ _ _ (omega (arith, c.in_ok-digit.ensures, c.in_ok-checked_mul.ensures, c.in_ok-n.ensures))
