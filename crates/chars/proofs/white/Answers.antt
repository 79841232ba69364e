use mathlib.Core.Path.{◌∙◌}
use Rattle.chars.proofs.Spaces.{any_white}
use Rattle.chars.proofs.white.Goals as goal

pub returns : goal.returns
returns c = c.inside.ensures ∙ any_white c.args.p
