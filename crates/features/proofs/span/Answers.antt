-- Of no list and of a string the span is all values, and of an array it is what `fields_at` says of its place.
use borrow.Author.Rules.{rules}
use Rattle.features.proofs.Tallying.{span_items, span_not}
use Rattle.features.proofs.span.Goals as goal

pub returns-in-Items : goal.returns-in-Items
returns-in-Items c = search (rules, span_items)

pub returns-in_default : goal.returns-in_default
returns-in_default c = search (rules, span_not)
