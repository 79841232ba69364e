-- In an arm the number is known, and the definition of that number gives the word; past them all, no test holds.
use Rattle.laws.specs.Tests.{tests}
use Rattle.host.proofs.Viewing.{word_by_lem}
use Rattle.host.specs.Records.{word_by}
use borrow.Author.Rules.{rules}
use Rattle.host.proofs.records.word_by.Goals as goal

pub returns-in-2 : goal.returns-in-2
unfolding word_by
returns-in-2 c = search (rules, word_by_lem)

pub returns-in-3 : goal.returns-in-3
unfolding word_by
returns-in-3 c = search (rules, word_by_lem)

pub returns-in-4 : goal.returns-in-4
unfolding word_by
returns-in-4 c = search (rules, word_by_lem)

pub returns-in-5 : goal.returns-in-5
unfolding word_by
returns-in-5 c = search (rules, word_by_lem)

pub returns-in-6 : goal.returns-in-6
unfolding word_by
returns-in-6 c = search (rules, word_by_lem)

pub returns-in-7 : goal.returns-in-7
unfolding word_by
returns-in-7 c = search (rules, word_by_lem)

pub returns-in-8 : goal.returns-in-8
unfolding word_by
returns-in-8 c = search (rules, word_by_lem)

pub returns-in-9 : goal.returns-in-9
unfolding word_by
returns-in-9 c = search (rules, word_by_lem)

pub returns-in-10 : goal.returns-in-10
unfolding word_by
returns-in-10 c = search (rules, word_by_lem)

pub returns-in-11 : goal.returns-in-11
unfolding word_by
returns-in-11 c = search (rules, word_by_lem)

pub returns-in-12 : goal.returns-in-12
unfolding word_by
returns-in-12 c = search (rules, word_by_lem)

pub returns-in-13 : goal.returns-in-13
unfolding word_by
returns-in-13 c = search (rules, word_by_lem)

pub returns-in-14 : goal.returns-in-14
unfolding word_by
returns-in-14 c = search (rules, word_by_lem)

pub returns-in-15 : goal.returns-in-15
unfolding word_by
returns-in-15 c = search (rules, word_by_lem)

pub returns-in-16 : goal.returns-in-16
unfolding word_by
returns-in-16 c = search (rules, word_by_lem)

pub returns-in-17 : goal.returns-in-17
unfolding word_by
returns-in-17 c = search (rules, word_by_lem)

pub returns-in_default : goal.returns-in_default
unfolding word_by
returns-in_default c = search tests
