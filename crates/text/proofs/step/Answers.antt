use Rattle.meaning.specs.Quote.{step}
use Rattle.text.proofs.step.Goals as goal

pub returns : goal.returns
unfolding step
returns c = cc (c.state_after.ensures, c.tally.ensures, c.tally-2.ensures)
