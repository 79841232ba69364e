-- Spots: where a text or a feature list is, in few bytes, and what stands there.
use Rattle.std.specs.Prelude.{ℕ, ◌%◌, ◌<◌, List, ◌≡◌, refl}
use Rattle.std.proofs.Math.Option.{Option, none, some}
use Rattle.std.proofs.Common.{arith}
use Rattle.schema.specs.declared.Text.{Text}
use Rattle.schema.specs.declared.Text.TheVariants as texts
use Rattle.schema.specs.declared.Features.{Features}
use Rattle.schema.specs.declared.Features.TheVariants as lists
use Rattle.schema.specs.declared.spot.Spot.{Spot}
use Rattle.schema.specs.declared.spot.Spot.TheVariants as spots
use Rattle.schema.specs.Texts.{clip}

-- a text that lies in the store
abbrev pub packed : List ℕ → Text → Option (List ℕ)
packed store texts.Absent = none
packed store (texts.Stored from len) = some (clip from len store)
packed store texts.Lent = none
packed store (texts.Fixed w) = none
packed store (texts.WithAic from len) = none

abbrev pub no_spot : Spot
no_spot = spots.Nothing

abbrev pub bytes_spot : ℕ → ℕ → Spot
bytes_spot from len = spots.Bytes (from % 65536) (len % 65536)

abbrev pub text_spot : Text → Spot
text_spot texts.Absent = no_spot
text_spot (texts.Stored from len) = bytes_spot from len
text_spot texts.Lent = no_spot
text_spot (texts.Fixed w) = no_spot
text_spot (texts.WithAic from len) = no_spot

abbrev pub list_spot : Features → Spot
list_spot lists.Absent = no_spot
list_spot (lists.Words from len) = bytes_spot from len
list_spot (lists.Items place) = spots.Items place

-- the text, its bytes, and the feature list, at a spot
abbrev pub text_at : Spot → Text
text_at spots.Nothing = texts.Absent
text_at (spots.Bytes from len) = texts.Stored from len
text_at (spots.Items place) = texts.Absent

abbrev pub spotted : List ℕ → Spot → Option (List ℕ)
spotted store spots.Nothing = none
spotted store (spots.Bytes from len) = some (clip from len store)
spotted store (spots.Items place) = none

abbrev pub list_at : Spot → Features
list_at spots.Nothing = lists.Absent
list_at (spots.Bytes from len) = lists.Words from len
list_at (spots.Items place) = lists.Items place

-- ---- what was read is at its spot

-- absent, or a short text of the store; and so is a feature list that is a text
abbrev pub Short : Text → Type 0
Short texts.Absent = Unit {0}
Short (texts.Stored from len) = (from < 65536) × (len < 65536)
Short texts.Lent = ⊥
Short (texts.Fixed w) = ⊥
Short (texts.WithAic from len) = ⊥

abbrev pub ShortList : Features → Type 0
ShortList lists.Absent = Unit {0}
ShortList (lists.Words from len) = (from < 65536) × (len < 65536)
ShortList (lists.Items place) = Unit {0}

below : (n : ℕ) → n < 65536 → n % 65536 ≡ n
below n h = omega (arith, h)

pub stored_short : (t : Text) → Short t → text_at (text_spot t) ≡ t
stored_short texts.Absent h = refl
stored_short (texts.Stored from len) h = rw (below from h.0, below len h.1)
stored_short texts.Lent h = absurd h
stored_short (texts.Fixed w) h = absurd h
stored_short (texts.WithAic from len) h = absurd h

pub spotted_short : (store : List ℕ) (t : Text) → Short t → spotted store (text_spot t) ≡ packed store t
spotted_short store texts.Absent h = refl
spotted_short store (texts.Stored from len) h = rw (below from h.0, below len h.1)
spotted_short store texts.Lent h = absurd h
spotted_short store (texts.Fixed w) h = absurd h
spotted_short store (texts.WithAic from len) h = absurd h

pub list_short : (f : Features) → ShortList f → list_at (list_spot f) ≡ f
list_short lists.Absent h = refl
list_short (lists.Words from len) h = rw (below from h.0, below len h.1)
list_short (lists.Items place) h = refl
