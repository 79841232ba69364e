use Rattle.features.proofs.Stepping.{raw_end, raw_rises, raw_fits, raw_step}
use borrow.Author.Rules.{rules}
use Rattle.features.proofs.raw_word.Goals as goal

pub overflow_add-result : goal.overflow_add-result
overflow_add-result c = search (rules, raw_fits)

pub overflow_sub-result : goal.overflow_sub-result
overflow_sub-result c = search (rules, raw_rises)

pub returns-in_err-word : goal.returns-in_err-word
returns-in_err-word c = search (rules, raw_end)

pub returns : goal.returns
returns c = raw_step _ _ _ _ _ c.stored-s.ensures _ c.first.ensures _ c.in_ok-word.was
