-- What a whole key comes to, and what it leaves in the store.
use Rattle.std.specs.Prelude.{ℕ, zero, suc, ◌+◌, ◌-◌, ◌≤◌, List, [], ◌∷◌, ◌++◌, ◌≡◌, Option, Some, None, Result, Ok, Err, length}
use Rattle.meaning.specs.Base.{zeros, cut}
use Rattle.meaning.specs.Refusal.{R, ok, bad}
use Rattle.meaning.specs.Space.{trim}
use Rattle.meaning.specs.Keys.{segment, keys}
use Rattle.meaning.specs.declared.Refused.{Refused}
use Rattle.scalar.specs.declared.key.Key.{Key}
use Rattle.scalar.specs.declared.key.BadKey.{BadKey}
use Rattle.scalar.specs.Stores.{stored}
use Rattle.scalar.specs.Segments.{told, laid}

-- the segments taken, and what a refused one after them leaves
pub record Taken : Type 0 where
  pub segs : List (List ℕ)
  pub rest : List ℕ

abbrev pub none : Taken
none = record { segs = []; rest = [] }

-- by what the first segment says: it is taken and others follow, or it is refused and leaves w
abbrev pub by : R (List ℕ) → List ℕ → Taken → Taken
by (ok k) w t = record { segs = k ∷ t.segs; rest = t.rest }
by (bad m) w t = record { segs = []; rest = w }

-- of the parts between dots, at most n
abbrev pub taken : ℕ → List (List ℕ) → Taken
taken n [] = none
taken zero (p ∷ ps) = none
taken (suc n) (p ∷ ps) = by (segment (trim p)) (laid (trim p)) (taken n ps)

unfoldable pub takes : ℕ → List ℕ → Taken
takes limit s = taken limit (cut 46 s)

-- byte strings one after the other
abbrev pub flat : List (List ℕ) → List ℕ
flat [] = []
flat (k ∷ ks) = k ++ flat ks

-- all that is laid into the store
abbrev pub bytes_of : Taken → List ℕ
bytes_of t = flat t.segs ++ t.rest

-- where each segment ends, the first of which begins at at
abbrev pub ends_of : ℕ → List (List ℕ) → List ℕ
ends_of at [] = []
ends_of at (k ∷ ks) = (at + length k) ∷ ends_of (at + length k) ks

-- what an answer is refused with, and what was taken
abbrev pub refusal : Result Key BadKey → Option Refused
refusal (Ok k) = None
refusal (Err e) = Some e.refused

abbrev pub key_of : Result Key BadKey → Key
key_of (Ok k) = k
key_of (Err e) = e.taken

-- no more segments than there are places, and room for the whole key
pub record Asked (limit : ℕ) (s store : List ℕ) (at : ℕ) : Type 0 where
  pub top : limit ≤ 16
  pub room : at + length s ≤ length store

-- what `put_key` leaves: its answer, and the store with all bytes laid from at on
pub record Splits (limit : ℕ) (s store : List ℕ) (at : ℕ) (store' : List ℕ) (r : Result Key BadKey) : Type 0 where
  pub says : told (refusal r) (takes limit s).segs ≡ keys limit s
  pub count : (key_of r).n ≡ length (takes limit s).segs
  pub reach : (key_of r).used ≡ at + length (bytes_of (takes limit s))
  pub places : (key_of r).ends ≡ ends_of at (takes limit s).segs ++ zeros (16 - length (takes limit s).segs)
  pub left : store' ≡ stored store at (bytes_of (takes limit s))
  pub few : (key_of r).n ≤ limit
  pub fits : (key_of r).used ≤ at + length s
