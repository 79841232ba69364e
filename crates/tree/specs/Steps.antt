-- The walks: over what hangs under a place in the order of the text, and over a table's keys in byte order.
-- A loop over a walk w keeps one equation on what is to come, `all ≡ f (to_come room w)`, and `w.end ≤ made`; its measure is `length (to_come room w)`.
-- Of each step it learns `Gives room w step`: `item_given` and `item_ended` say what is to come, `item_fewer` that the walk ends,
-- `item_room` and `item_stands` that the room holds the walk and the value.
-- A loop over keys keeps `Over room table made w` and what is left after `w.after`; `key_given` and `key_ended` say what the next key is.
use Rattle.std.specs.Prelude.{ℕ, ◌≤◌, ◌<◌, List, [], ◌∷◌, ◌≡◌, length, Option, Some, None}
use Rattle.std.proofs.Common.{ap, arith}
use Rattle.tree.specs.declared.Span.{Span}
use Rattle.tree.specs.declared.Step.{Step}
use Rattle.tree.specs.declared.Items.{Items}
use Rattle.tree.specs.declared.Keys.{Keys}
use Rattle.tree.specs.Room.{Holds, Clear, slot_at}
use Rattle.tree.specs.Doors.{Rooms, Stood, items}
use Rattle.tree.specs.Order.{next}

-- ---- in the order of the text

abbrev pub items_from : ℕ → ℕ → ℕ → Items
items_from place from end = record { place = place; at = from; end = end }

-- the numbers of the values that a walk has still to give
abbrev pub to_come : List ℕ → Items → List ℕ
to_come room w = items room w.end w.place w.at

-- a step gives a value's number, and the rest of the walk
pub record Given (room : List ℕ) (w : Items) (given : Step Items) : Type 0 where
  pub come : to_come room w ≡ given.value ∷ to_come room given.rest
  pub below : given.value < w.end
  pub place : given.rest.place ≡ w.place
  pub end : given.rest.end ≡ w.end
  pub on : w.at < given.rest.at
  pub within : given.rest.at ≤ w.end

-- what a step says
abbrev pub Gives : List ℕ → Items → Option (Step Items) → Type 0
Gives room w None = to_come room w ≡ []
Gives room w (Some given) = Given room w given

pub item_room : (room : List ℕ) (made : ℕ) (w : Items) → Rooms room made → w.end ≤ made → Holds room w.end
item_room room made w r l = record { fits = omega (arith, r.fits.fits) }

module _ (room : List ℕ) (w : Items) (step : Option (Step Items)) (h : Gives room w step) where
  pub item_ended : step ≡ None → to_come room w ≡ []
  item_ended e = rw e at h

  module _ (given : Step Items) (e : step ≡ Some given) where
    pub item_given : Given room w given
    item_given = rw e at h

    -- fewer are to come
    pub item_fewer : length (to_come room given.rest) < length (to_come room w)
    item_fewer = omega (arith, ap length item_given.come)

    -- what is given stands in the room
    pub item_stands : (made : ℕ) → Rooms room made → w.end ≤ made → Stood room given.value
    item_stands made r l = record { fits = record { fits = omega (arith, item_given.below, r.fits.fits) }; low = omega (arith, item_given.below, r.low) }

-- ---- in byte order of key

-- where a value's key stands in the text store
abbrev pub key_at : List ℕ → ℕ → Span
key_at room n = record { from = (slot_at room n).key; len = (slot_at room n).len }

-- it is that, and short, as all that two bytes say
pub record KeyIs (room : List ℕ) (n : ℕ) (r : Span) : Type 0 where
  pub is : r ≡ key_at room n
  pub near : r.from < 65536
  pub short : r.len < 65536

-- the room holds the values that a walk over keys is among, and none below its low hangs under the place
pub record Ready (room : List ℕ) (w : Keys) : Type 0 where
  pub fits : Holds room w.end
  pub clear : Clear room w.place 0 w.low

-- a walk over the keys of this table
pub record Over (room : List ℕ) (table made : ℕ) (w : Keys) : Type 0 where
  pub ready : Ready room w
  pub place : w.place ≡ table
  pub end : w.end ≡ made

-- it begins after a value, from nothing at the first key
pub record Begins (room : List ℕ) (table made : ℕ) (value : Option ℕ) (w : Keys) : Type 0 where
  pub over : Over room table made w
  pub after : w.after ≡ value

-- a step from a value gives the next key's value, and the walk over the rest
pub record KeyGiven (room store : List ℕ) (table made : ℕ) (value : Option ℕ) (given : Step Keys) : Type 0 where
  pub next : next (slot_at room) store made table value ≡ Some given.value
  pub below : given.value < made
  pub over : Over room table made given.rest
  pub after : given.rest.after ≡ Some given.value

-- what a step says
abbrev pub KeyGives : List ℕ → List ℕ → Keys → Option (Step Keys) → Type 0
KeyGives room store w None = next (slot_at room) store w.end w.place w.after ≡ None
KeyGives room store w (Some given) = KeyGiven room store w.place w.end w.after given

module _ (room store : List ℕ) (table made : ℕ) (w : Keys) (o : Over room table made w) (step : Option (Step Keys)) (h : KeyGives room store w step) where
  pub key_ended : step ≡ None → next (slot_at room) store made table w.after ≡ None
  key_ended e = rw (← o.place, ← o.end) (rw e at h)

  module _ (given : Step Keys) (e : step ≡ Some given) where
    pub key_given : KeyGiven room store table made w.after given
    key_given = rw (← o.place, ← o.end) (rw e at h)

    -- what is given stands in the room
    pub key_stands : (all : ℕ) → Rooms room all → made ≤ all → Stood room given.value
    key_stands all r l = record { fits = record { fits = omega (arith, key_given.below, r.fits.fits) }; low = omega (arith, key_given.below, r.low) }
