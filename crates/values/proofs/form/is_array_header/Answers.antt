-- A line under 4 bytes is none; of any other the two first and two last bytes are tested.
use Rattle.meaning.specs.Document as meant
use Rattle.laws.specs.Tests.{tests}
use Rattle.values.proofs.form.is_array_header.Goals as goal

pub returns-in-91 : goal.returns-in-91
unfolding meant.array_header
returns-in-91 c = search tests

pub returns-in_default : goal.returns-in_default
unfolding meant.array_header
returns-in_default c = search tests

pub returns-in_default-2 : goal.returns-in_default-2
unfolding meant.array_header
returns-in_default-2 c = search tests

pub returns-in_default-3 : goal.returns-in_default-3
unfolding meant.array_header
returns-in_default-3 c = search tests

pub returns-in_default-4 : goal.returns-in_default-4
unfolding meant.array_header
returns-in_default-4 c = search tests

pub returns-in_default-5 : goal.returns-in_default-5
unfolding meant.array_header
returns-in_default-5 c = search tests
