-- Where the lengths or the last bytes are not the same, the two are not.
use mathlib.Core.Path.{◌∙◌, ap}
use lib.ListN.{length}
use native.Mathlib.Omega.{arith}
use Rattle.std.proofs.lemmas.Bool.Decides.{nat_tests}
use Rattle.slices.proofs.Bytes.{same_not}
use Rattle.slices.proofs.same_last_first.Goals as goal
use Rattle.slices.proofs.same_last_first.Goals.{then-n-b+then-n-eq0, then-n-b+else-n-eq0, else-n-b}

pub returns-else-a-n : goal.returns-else-a-n
returns-else-a-n c =
    elim c.if-n-b.branch [
      | then-n-b+then-n-eq0 w ↦ grind (arith, nat_tests)
      | then-n-b+else-n-eq0 w ↦ c.if-a-n.false ∙ same_not c.args.a.now c.args.b.now (λ e. grind (arith, nat_tests))
      | else-n-b w ↦ c.if-a-n.false ∙ same_not c.args.a.now c.args.b.now (λ e. w.if-n-b.false (ap length e))
    ]
