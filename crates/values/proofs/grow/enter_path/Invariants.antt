-- What is left to walk from here means what the whole key means from the start, and the room holds what was made on the way.
use Rattle.values.proofs.Descending.{Walking}
use Rattle.values.proofs.grow.enter_path.Given as goal

abbrev pub invariant-loop-end : goal.invariant-loop-end
invariant-loop-end l = Walking l.fn.start.limit l.initial.tree l.store l.fn.start.made l.fn.start.place l.fn.key l.from l.steps l.tree l.here l.at l.end-index
