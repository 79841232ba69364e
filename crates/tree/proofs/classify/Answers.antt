-- Each of the six kinds gives the value of its own arm, and any other number is absent, as in the definition.
use Rattle.tree.proofs.Opening.{kind_integer, kind_flag, kind_array, kind_table, kind_minus}
use Rattle.tree.specs.Doors.{value_of}
use Rattle.laws.specs.Tests.{tests}
use borrow.Author.Rules.{rules}
use Rattle.tree.proofs.classify.Goals as goal

pub returns-in-1 : goal.returns-in-1
unfolding value_of
returns-in-1 c = search tests

pub returns-in-2 : goal.returns-in-2
returns-in-2 c = search (rules, kind_integer)

pub returns-in-3 : goal.returns-in-3
returns-in-3 c = search (rules, kind_flag)

pub returns-in-4 : goal.returns-in-4
returns-in-4 c = search (rules, kind_array)

pub returns-in-5 : goal.returns-in-5
returns-in-5 c = search (rules, kind_table)

pub returns-in-6 : goal.returns-in-6
returns-in-6 c = search (rules, kind_minus)

pub returns-in_default : goal.returns-in_default
unfolding value_of
returns-in_default c = search tests
