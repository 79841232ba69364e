use borrow.Author.Rules.{rules}
use mathlib.Core.Path.{refl}
use Rattle.page.proofs.Writing.{byte_in, byte_past}
use Rattle.page.proofs.Page.byte.Goals as goal

pub returns-then-self : goal.returns-then-self
returns-then-self c = record { same = refl; wrote = search (rules, byte_in) }

pub returns-else-self : goal.returns-else-self
returns-else-self c = record { same = refl; wrote = search (rules, byte_past) }
