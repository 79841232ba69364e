use Rattle.std.proofs.Common.{rules}
use Rattle.scalar.proofs.Integers.{no_sign, sign_minus, sign_plus, sign_none}
use Rattle.scalar.proofs.integer.sign.Goals as goal

pub returns-in_default : goal.returns-in_default
returns-in_default c = rw c.in_default.ensures (no_sign c.args.base)

pub returns-in-45 : goal.returns-in-45
returns-in-45 c = search (rules, sign_minus)

pub returns-in-43 : goal.returns-in-43
returns-in-43 c = search (rules, sign_plus)

pub returns-in_default-b : goal.returns-in_default-b
returns-in_default-b c = search (rules, sign_none)
