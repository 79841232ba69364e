use borrow.Author.Rules.{rules}
use Rattle.toml_lite.proofs.Keying.{item_fault, item_keyed, item_done, after_ok, after_err}
use Rattle.toml_lite.proofs.header_item.Goals as goal

pub returns-in_err-key : goal.returns-in_err-key
returns-in_err-key c = item_fault _ _ _ _ _ c.requires _ _ c.put_key.ensures _ _ c.in_err-key.was (search rules)

pub push_path-requires : goal.push_path-requires
push_path-requires c = item_keyed _ _ _ _ _ c.requires _ _ c.put_key.ensures _ c.in_ok-key.was

pub returns-in_err-there : goal.returns-in_err-there
returns-in_err-there c = item_done _ _ _ _ _ c.requires _ _ c.put_key.ensures _ c.in_ok-key.was _ _ _ c.push_path.ensures (after_err _ _ _ _ _ c.in_err-there.was (search rules))

pub returns : goal.returns
returns c = item_done _ _ _ _ _ c.requires _ _ c.put_key.ensures _ c.in_ok-key.was _ _ _ c.push_path.ensures (after_ok _ _ _ _ _ c.in_ok-there.was c.progress_to.ensures)
