use Rattle.std.proofs.Common.{rules}
use Rattle.scalar.proofs.Decoding.{after_one, escape_out, hold_on, put_on}
use Rattle.scalar.proofs.string.decode.Goals as goal
use Rattle.scalar.proofs.string.decode.Goals.{in-Hold, in-Put}

pub overflow_sub-result : goal.overflow_sub-result
overflow_sub-result c = search (rules, after_one)

pub returns-in-Fault : goal.returns-in-Fault
returns-in-Fault c = search (rules, escape_out)

pub loop-i-preserved : goal.loop-i-preserved
loop-i-preserved c =
    elim c.match-act.branch [
      | in-Hold w ↦ rw (w.out-is, w.written-is, w.state-is) (search (rules, hold_on))
      | in-Put w ↦ rw (w.out-is, w.written-is, w.state-is) (search (rules, put_on))
    ]
