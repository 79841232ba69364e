use borrow.Author.Rules.{rules}
use mathlib.Core.Bool.{not}
use mathlib.Core.Path.{◌∙◌, ap}
use Rattle.chars.proofs.Spaces.{all_white}
use Rattle.chars.proofs.Ends.{blank_none, blank_dark}
use Rattle.chars.proofs.blank.Goals as goal

pub returns-then-is_empty : goal.returns-then-is_empty
returns-then-is_empty c = c.if-is_empty.true ∙ blank_none _ (search rules)

pub returns-then-not-surely_no_space : goal.returns-then-not-surely_no_space
returns-then-not-surely_no_space c = search (rules, all_white)

pub returns-else-not-surely_no_space : goal.returns-else-not-surely_no_space
returns-else-not-surely_no_space c =
    let d : _ = c.if-not-surely_no_space.false in
    ap not d ∙ blank_dark c.args.s.now (search rules) _ c.surely_no_space.ensures d
