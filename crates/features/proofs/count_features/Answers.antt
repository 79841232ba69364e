-- The span lies in the rooms and holds all items of the list, so the items counted there are all of them.
use borrow.Author.Rules.{rules}
use Rattle.features.proofs.Tallying.{span_all, span_in}
use Rattle.features.proofs.count_features.Goals as goal

pub returns : goal.returns
returns c = search (rules, span_all)

pub invariant_of-within : goal.invariant_of-within
invariant_of-within c = record { fits = (span_in _ c.args.rooms.store.now _ c.args.f _ c.args.rooms.fits c.span-s.ensures).0 }

pub tally-requires : goal.tally-requires
tally-requires c = (span_in _ c.args.rooms.store.now _ c.args.f _ c.args.rooms.fits c.span-s.ensures).1
