use borrow.Author.Rules.{rules}
use Rattle.parse.proofs.Composing.{name_fits}
use Rattle.parse.proofs.component.name_in.Goals as goal

pub overflow_add-result : goal.overflow_add-result
overflow_add-result c = search (rules, name_fits)
