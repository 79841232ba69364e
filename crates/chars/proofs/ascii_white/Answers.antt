use borrow.Author.Tests.{eq-eqb}
use mathlib.Core.Path.{◌≡◌, ◌∙◌}
use native.Mathlib.Omega.{arith}
use Rattle.std.proofs.lemmas.Bool.Decides.{nat_tests}
use Rattle.meaning.specs.Base.{between}
use Rattle.chars.specs.Ascii.{space_white, rest_white}
use Rattle.chars.proofs.ascii_white.Goals as goal

pub returns-then-b-eq32 : goal.returns-then-b-eq32
returns-then-b-eq32 c = eq-eqb _ _ c.if-b-eq32.true ∙ space_white _ c.if-b-eq32.true

pub returns-else-b-eq32 : goal.returns-else-b-eq32
unfolding between
returns-else-b-eq32 c =
    let e : c.contains.result ≡ between 9 13 c.args.b = grind (arith, nat_tests) in
    e ∙ rest_white _ c.requires c.if-b-eq32.false
