-- An output of the size that docs/ROOMS.md asks for takes every listing: no accepted text has a longer one.
use Rattle.std.specs.Prelude.{ℕ, ◌≤◌, List, ◌≡◌, length}
use Rattle.meaning.specs.Limits.{of01}
use Rattle.meaning.specs.Refusal.{accepted}
use Rattle.meaning.specs.Listing.{Listed, bytes_of, listing, out_size}

-- for every lent name and text, whatever the rooms
abbrev pub ListingFits : Type 0
ListingFits = (store tree out : ℕ) (name text : List ℕ) (l : Listed)
    → listing of01 store tree out name text ≡ accepted l → length (bytes_of l) ≤ out_size name
