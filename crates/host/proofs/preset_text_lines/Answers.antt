use Rattle.host.proofs.Exports.{too_small, fine_out, refused_out}
use borrow.Author.Rules.{rules}
use Rattle.host.proofs.preset_text_lines.Goals as goal

pub returns-then-scratch-lt-SCRATCH_BYTES : goal.returns-then-scratch-lt-SCRATCH_BYTES
returns-then-scratch-lt-SCRATCH_BYTES c = search (rules, too_small)

pub returns-in-Ok : goal.returns-in-Ok
returns-in-Ok c = search (rules, fine_out)

pub returns-in-Err : goal.returns-in-Err
returns-in-Err c = search (rules, refused_out)
