-- In each arm the state is known, and the bytes that change it are tested in the order of the definition.
use Rattle.laws.specs.Tests.{tests}
use Rattle.meaning.specs.Quote.{state_after}
use Rattle.text.proofs.state_after.Goals as goal

pub returns-then-b-eq34 : goal.returns-then-b-eq34
unfolding state_after
returns-then-b-eq34 c = rw c.in-Outside.is (search tests)

pub returns-then-b-eq92 : goal.returns-then-b-eq92
unfolding state_after
returns-then-b-eq92 c = rw c.in-Inside.is (search tests)

pub returns-then-b-eq34-2 : goal.returns-then-b-eq34-2
unfolding state_after
returns-then-b-eq34-2 c = rw c.in-Inside.is (search tests)

pub returns-else-b-eq34 : goal.returns-else-b-eq34
unfolding state_after
returns-else-b-eq34 c = rw c.in-Outside.is (search tests)

pub returns-else-b-eq34-2 : goal.returns-else-b-eq34-2
unfolding state_after
returns-else-b-eq34-2 c = rw c.in-Inside.is (search tests)

pub returns-in-Escaped : goal.returns-in-Escaped
unfolding state_after
returns-in-Escaped c = rw c.in-Escaped.is
