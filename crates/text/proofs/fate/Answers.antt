-- The counts are compared in the order of the definition, and where they are equal the string state decides.
use borrow.Author.Rules.{rules}
use Rattle.meaning.specs.Lines.{fate}
use Rattle.std.proofs.Common.{◌∙◌, lt-ltb}
use Rattle.laws.specs.Cases.{never}
use Rattle.laws.specs.Tests.{tests}
use Rattle.text.proofs.States.{fate_whole, fate_open, fate_more}
use Rattle.text.proofs.fate.Goals.{then-c-2, else-c-2}
use Rattle.text.proofs.fate.Goals as goal

pub returns-then-c : goal.returns-then-c
unfolding fate
returns-then-c c = search tests

pub returns-then-ne : goal.returns-then-ne
returns-then-ne c = elim c.if-c-2.branch [ then-c-2 w ↦ search (rules, fate_more) | else-c-2 w ↦ search (rules, fate_open) ]

pub returns-else-ne : goal.returns-else-ne
returns-else-ne c = elim c.if-c-2.branch [ then-c-2 w ↦ never (w.value-is ∙ lt-ltb _ _ w.if-c-2.true) c.if-ne.false | else-c-2 w ↦ search (rules, fate_whole) ]
