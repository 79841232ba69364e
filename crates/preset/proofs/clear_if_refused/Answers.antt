use Rattle.preset.proofs.Settling.{kept_fine, kept_not}
use borrow.Author.Rules.{rules}
use Rattle.preset.proofs.clear_if_refused.Goals as goal

pub returns-then-v-eq0 : goal.returns-then-v-eq0
returns-then-v-eq0 c = search (rules, kept_fine)

pub returns : goal.returns
returns c = search (rules, kept_not)
