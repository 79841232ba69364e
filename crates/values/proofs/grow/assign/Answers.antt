use borrow.Author.Rules.{rules}
use Rattle.values.proofs.Descending.{last_paths, last_hangs, hang_done, last_fault}
use Rattle.values.proofs.grow.assign.Goals as goal

pub enter_path-requires : goal.enter_path-requires
enter_path-requires c = search (rules, last_paths)

pub hang_up-requires : goal.hang_up-requires
hang_up-requires c = search (rules, last_hangs, c.in_ok-there.was)

pub returns : goal.returns
returns c = search (rules, hang_done, c.in_ok-there.was)

pub returns-in_err-there : goal.returns-in_err-there
returns-in_err-there c = last_fault _ _ _ _ _ _ _ c.requires.keyed _ _ c.enter_path.ensures _ _ c.in_err-there.was _ (search rules)
