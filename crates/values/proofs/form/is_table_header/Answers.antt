-- A line under 2 bytes is none; of any other the first, second and last are tested.
use Rattle.meaning.specs.Document as meant
use Rattle.laws.specs.Tests.{tests}
use Rattle.values.proofs.form.is_table_header.Goals.{in-91, in_default, in_default-2, in_default-3}
use Rattle.values.proofs.form.is_table_header.Goals as goal

pub returns-then-matches : goal.returns-then-matches
unfolding meant.table_header
returns-then-matches c = elim c.if-matches-2.branch [ in-91 w ↦ search tests | in_default w ↦ search tests | in_default-2 w ↦ search tests | in_default-3 w ↦ search tests ]

pub returns-else-matches : goal.returns-else-matches
unfolding meant.table_header
returns-else-matches c = elim c.if-matches-2.branch [ in-91 w ↦ search tests | in_default w ↦ search tests | in_default-2 w ↦ search tests | in_default-3 w ↦ search tests ]
