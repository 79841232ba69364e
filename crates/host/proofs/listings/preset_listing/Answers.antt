use borrow.Author.Rules.{rules}
use Rattle.host.proofs.Reporting.{listing_is}
use Rattle.host.proofs.listings.preset_listing.Goals as goal

pub returns : goal.returns
returns c = search (rules, listing_is)
