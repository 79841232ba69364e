use borrow.Author.Rules.{rules}
use Rattle.toml_lite.proofs.Keying.{hang_fault, hang_assigns, hang_done, after_ok, after_err}
use Rattle.toml_lite.proofs.hang_key.Goals as goal

pub returns-in_err-key : goal.returns-in_err-key
returns-in_err-key c = hang_fault _ _ _ _ _ _ _ c.requires _ _ c.put_key.ensures _ _ c.in_err-key.was (search rules)

pub assign-requires : goal.assign-requires
assign-requires c = hang_assigns _ _ _ _ _ _ c.args.progress.here c.requires _ _ c.put_key.ensures _ c.in_ok-key.was

pub returns-in_err-there : goal.returns-in_err-there
returns-in_err-there c = hang_done _ _ _ _ _ _ _ c.requires _ _ c.put_key.ensures _ c.in_ok-key.was _ _ _ c.assign.ensures (after_err _ _ _ _ _ c.in_err-there.was (search rules))

pub returns : goal.returns
returns c = hang_done _ _ _ _ _ _ _ c.requires _ _ c.put_key.ensures _ c.in_ok-key.was _ _ _ c.assign.ensures (after_ok _ _ _ _ _ c.in_ok-there.was c.progress_to.ensures)
