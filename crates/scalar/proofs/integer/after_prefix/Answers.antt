use Rattle.std.proofs.Common.{inl, inr}
use Rattle.scalar.proofs.Integers.{short_ten, one_ten, other_ten, plain_ten, small_hex, large_hex}
use Rattle.scalar.proofs.integer.after_prefix.Goals as goal
use Rattle.scalar.proofs.integer.after_prefix.Goals.{else-zero-eq48-via-then-zero-eq48+else-x-eq88, else-zero-eq48-via-else-zero-eq48}

pub returns-in_err-zero : goal.returns-in_err-zero
returns-in_err-zero c = rw c.from_residual.ensures (short_ten _ c.in_err-zero.ensures)

pub returns-in_err-x : goal.returns-in_err-x
returns-in_err-x c = rw c.from_residual-in_err-x.ensures (one_ten _ _ _ c.in_ok-zero.ensures c.in_err-x.ensures)

pub returns-then-x-eq88 : goal.returns-then-x-eq88
returns-then-x-eq88 c =
    elim c.if-x-eq88.either [
      | inl e ↦ small_hex _ _ _ c.in_ok-zero.ensures _ _ c.in_ok-x.ensures c.if-zero-eq48.true e
      | inr e ↦ large_hex _ _ _ c.in_ok-zero.ensures _ _ c.in_ok-x.ensures c.if-zero-eq48.true e.1
    ]

pub returns-else-zero-eq48 : goal.returns-else-zero-eq48
returns-else-zero-eq48 c =
    elim c.else-zero-eq48.branch [
      | else-zero-eq48-via-then-zero-eq48+else-x-eq88 w ↦ plain_ten _ _ _ c.in_ok-zero.ensures _ _ c.in_ok-x.ensures w.if-x-eq88.false.0 w.if-x-eq88.false.1
      | else-zero-eq48-via-else-zero-eq48 w ↦ other_ten _ _ _ c.in_ok-zero.ensures w.if-zero-eq48.false
    ]
