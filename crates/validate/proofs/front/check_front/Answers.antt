-- Each way out in its order; the paths are too long for the search.
use mathlib.Core.Path.{sym, ◌∙◌}
use borrow.Author.Rules.{rules}
use Rattle.validate.proofs.Fronting.{ruled_device, ruled_profile, ruled_app, ruled_target, ruled_none}
use Rattle.validate.proofs.front.check_front.Goals as goal

pub returns-in-Err : goal.returns-in-Err
returns-in-Err c = search (rules, ruled_device)

pub returns-then-is_empty : goal.returns-then-is_empty
returns-then-is_empty c =
    ruled_profile _ _ _ _ _ _ c.check_device.ensures _ c.in_default.is _ c.bytes_of.ensures (sym c.is_empty.ensures ∙ c.if-is_empty.true) c.refusal_in-then-is_empty.ensures

pub returns-then-size-gt-LONGEST_NAME : goal.returns-then-size-gt-LONGEST_NAME
returns-then-size-gt-LONGEST_NAME c =
    ruled_app _ _ _ _ _ _ c.check_device.ensures _ c.in_default.is _ c.bytes_of.ensures (sym c.is_empty.ensures ∙ c.if-is_empty.false) _ c.size.ensures
    c.if-size-gt-LONGEST_NAME.true c.refusal_in-then-size-gt-LONGEST_NAME.ensures

pub returns-in-Err-check_width : goal.returns-in-Err-check_width
returns-in-Err-check_width c =
    ruled_target _ _ _ _ _ _ c.check_device.ensures _ c.in_default.is _ c.bytes_of.ensures (sym c.is_empty.ensures ∙ c.if-is_empty.false) _ c.size.ensures
    c.if-size-gt-LONGEST_NAME.false _ c.bytes_of-2.ensures _ c.check_width.ensures _ c.in-Err-check_width.is c.refusal_in-in-Err-check_width.ensures

pub returns : goal.returns
returns c =
    ruled_none _ _ _ _ _ _ c.check_device.ensures _ c.in_default.is _ c.bytes_of.ensures (sym c.is_empty.ensures ∙ c.if-is_empty.false) _ c.size.ensures
    c.if-size-gt-LONGEST_NAME.false _ c.bytes_of-2.ensures _ c.check_width.ensures _ c.in_default-check_width.is c.refusal_at.ensures
