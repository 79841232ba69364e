use borrow.Author.Rules.{rules}
use Rattle.toml_lite.proofs.Keying.{header_fault, header_paths, header_done, after_ok, after_err}
use Rattle.toml_lite.proofs.header.Goals as goal

pub returns-in_err-key : goal.returns-in_err-key
returns-in_err-key c = header_fault _ _ _ _ _ c.requires _ _ c.put_key.ensures _ _ c.in_err-key.was (search rules)

pub enter_path-requires : goal.enter_path-requires
enter_path-requires c = search (rules, header_paths)

pub returns-in_err-there : goal.returns-in_err-there
returns-in_err-there c = header_done _ _ _ _ _ c.requires _ _ c.put_key.ensures _ c.in_ok-key.was _ _ _ c.enter_path.ensures (after_err _ _ _ _ _ c.in_err-there.was (search rules))

pub returns : goal.returns
returns c = header_done _ _ _ _ _ c.requires _ _ c.put_key.ensures _ c.in_ok-key.was _ _ _ c.enter_path.ensures (after_ok _ _ _ _ _ c.in_ok-there.was c.progress_to.ensures)
