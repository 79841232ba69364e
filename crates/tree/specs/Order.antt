-- The values under a parent in byte order of their keys, one after the other: each step goes from a value to the next key's newest value.
use Rattle.std.specs.Prelude.{ℕ, zero, suc, ◌+◌, Bool, true, false, List, eqb, leb, ltb, length, Option, Some, None}
use Rattle.meaning.specs.Base.{pick, less, part}
use Rattle.tree.specs.declared.Slot.{Slot}
use Rattle.tree.specs.Room.{Holds}

-- a value's key, and whether it has one: what runs past the store is no key
abbrev pub key_of : List ℕ → Slot → List ℕ
key_of store v = part v.key (v.key + v.len) store

unfoldable pub has_key : List ℕ → Slot → Bool
has_key store v = leb (v.key + v.len) (length store)

-- v's key comes before w's, where both have one
unfoldable pub before : List ℕ → Slot → Slot → Bool
before store v w = pick (has_key store v) (pick (has_key store w) (less (key_of store v) (key_of store w)) false) false

module _ (at : ℕ → Slot) (store : List ℕ) where
  -- v has a key above that of value number m; above nothing is every key
  abbrev pub above : Option ℕ → Slot → Bool
  above (Some m) v = before store (at m) v
  above None v = has_key store v

  -- v has a key below that of the best so far
  abbrev pub nearer : Option ℕ → Slot → Bool
  nearer (Some m) v = before store v (at m)
  nearer None v = true

  module _ (parent : ℕ) (after : Option ℕ) where
    -- value number n hangs under the parent, with a key above
    unfoldable pub follows : ℕ → Bool
    follows n = pick (eqb (at n).parent parent) (above after (at n)) false

    -- value number n where it is nearer than the best, else the best: of values with one key the first met stays
    unfoldable pub better : Option ℕ → ℕ → Option ℕ
    better best n = pick (follows n) (pick (nearer best (at n)) (Some n) best) best

    -- the nearest of the best and of n values, from the newest down
    abbrev pub nearest : ℕ → Option ℕ → Option ℕ
    nearest zero best = best
    nearest (suc n) best = nearest n (better best n)

    -- the nearest of n values
    abbrev pub nearest_of : ℕ → Option ℕ
    nearest_of n = nearest n None

-- the value that a search found before is made
abbrev pub is_made : ℕ → Option ℕ → Bool
is_made made (Some m) = ltb m made
is_made made None = true

-- the value of the next key: among the values made that hang under the parent with a key above, one with the least key, and of those the newest;
-- after a value that is not made, or has no key, comes nothing
unfoldable pub next : (ℕ → Slot) → List ℕ → ℕ → ℕ → Option ℕ → Option ℕ
next at store made parent after = pick (is_made made after) (nearest at store parent after made None) None

-- how many of n values hang under the parent with a key above
abbrev pub ahead : (ℕ → Slot) → List ℕ → ℕ → Option ℕ → ℕ → ℕ
ahead at store parent after zero = 0
ahead at store parent after (suc n) = pick (follows at store parent after n) (suc (ahead at store parent after n)) (ahead at store parent after n)

-- a value found before stands in the room
abbrev pub Stands : List ℕ → Option ℕ → Type 0
Stands room (Some n) = Holds room (n + 1)
Stands room None = Unit {0}
