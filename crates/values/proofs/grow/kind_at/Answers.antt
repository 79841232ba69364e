use borrow.Author.Rules.{rules}
use Rattle.values.proofs.Growing.{holds_numbered, kind_is}
use Rattle.values.proofs.grow.kind_at.Goals as goal

pub kind_at-requires : goal.kind_at-requires
kind_at-requires c = search (rules, holds_numbered)

pub returns : goal.returns
returns c = search (rules, kind_is)
