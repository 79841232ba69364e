-- A walk along all but the last segment, and a step there, is the walk along the whole key.
use borrow.Author.Rules.{rules}
use Rattle.values.proofs.Descending.{last_paths, last_enters, push_done, last_fault}
use Rattle.values.proofs.grow.push_path.Goals as goal

pub enter_path-requires : goal.enter_path-requires
enter_path-requires c = search (rules, last_paths)

pub push-requires : goal.push-requires
push-requires c = search (rules, last_enters, c.in_ok-there.was)

pub returns : goal.returns
returns c = search (rules, push_done, c.in_ok-there.was)

pub returns-in_err-there : goal.returns-in_err-there
returns-in_err-there c = last_fault _ _ _ _ _ _ _ c.requires _ _ c.enter_path.ensures _ _ c.in_err-there.was _ (search rules)
