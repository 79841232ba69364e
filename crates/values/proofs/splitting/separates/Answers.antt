-- Of a comma outside strings the counts of brackets decide, as in the definition; of any other byte both say false.
use Rattle.meaning.specs.Values.{separates?}
use Rattle.laws.specs.Tests.{calls}
use Rattle.values.proofs.splitting.separates.Goals as goal

pub returns-then-equals_outside : goal.returns-then-equals_outside
unfolding separates?
returns-then-equals_outside c = search calls

pub returns-else-equals_outside : goal.returns-else-equals_outside
unfolding separates?
returns-else-equals_outside c = search calls
