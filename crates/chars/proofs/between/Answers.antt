use native.Mathlib.Omega.{arith}
use Rattle.std.proofs.lemmas.Bool.Decides.{nat_tests}
use Rattle.meaning.specs.Base.{between}
use Rattle.chars.proofs.between.Goals as goal

pub returns : goal.returns
unfolding between
returns c = grind (arith, nat_tests)
