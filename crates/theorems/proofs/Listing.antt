-- The listing of an accepted text is no longer than the output that is asked for.
use mathlib.Core.Path.{subst}
use lib.ListN.{length}
use Prim.Native.Nat.{◌≤◌}
use Rattle.meaning.specs.Limits.{of01}
use Rattle.meaning.specs.Refusal.{accepted}
use Rattle.meaning.specs.Plan.{boot_chain, plan}
use Rattle.meaning.specs.Listing.{Listed, listed, bytes_of, listing, short, out_size}
use Rattle.laws.specs.Cases.{on}
use Rattle.laws.specs.Answers.{accepted_one, refused_never, after_accepted}
use Rattle.laws.specs.Listings.{planned_fits}
use Rattle.theorems.specs.Listing.{ListingFits}

pub listing_fits : ListingFits
unfolding listing
listing_fits store tree out name text l e =
    on (short out name) (λ t. refused_never _ _ _ l (rw t at e))
    (λ t. let x = after_accepted (λ x. accepted (listed x)) (plan of01 store tree name boot_chain text) l (rw t at e) in
    subst (λ (k : Listed). length (bytes_of k) ≤ out_size name) (accepted_one (listed x.0) l x.2) (planned_fits store tree name text x.0 x.1))
