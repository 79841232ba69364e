-- Of the word met last it is known whether it is the end; the words before it are counted.
use Rattle.features.proofs.Wording.{Meeting, left_of}
use Rattle.features.proofs.reader.count.Given as goal

abbrev pub invariant-loop-here : goal.invariant-loop-here
invariant-loop-here l = Meeting l.words l.n l.here

abbrev pub decreases-loop-here : goal.decreases-loop-here
decreases-loop-here l = left_of l.words l.here
