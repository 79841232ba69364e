use Rattle.toml_lite.proofs.Lining.{pushes_done, pushes_does, heads_done, heads_does, sets_done, sets_does, neither_done}
use borrow.Author.Rules.{rules}
use Rattle.toml_lite.proofs.read_form.Goals as goal

pub returns-in_default : goal.returns-in_default
returns-in_default c = search (rules, neither_done)

pub returns-in-Pushes : goal.returns-in-Pushes
returns-in-Pushes c = search (rules, pushes_done, pushes_does)

pub returns-in-Heads : goal.returns-in-Heads
returns-in-Heads c = search (rules, heads_done, heads_does)

pub returns-in-Sets : goal.returns-in-Sets
returns-in-Sets c = search (rules, sets_done, sets_does)
