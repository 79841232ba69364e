-- Tables and arrays in the tree room, as a list of values: what headers and keys do to it. A place is 1 for the root, n + 2 for value number n.
use Rattle.std.specs.Prelude.{ℕ, ◌+◌, ◌-◌, Bool, false, List, [], ◌∷◌, ◌++◌, eqb, leb, length, get_or, set, Option, Some, None}
use Rattle.meaning.specs.Base.{pick, part}
use Rattle.tree.specs.declared.Slot.{Slot}
use Rattle.tree.specs.Room.{keyed, hung}

-- a key's segment, by where it lies in the store
pub record Seg : Type 0 where
  pub at : ℕ
  pub len : ℕ

-- the segment from at to before end
abbrev pub seg_of : ℕ → ℕ → Seg
seg_of at end = record { at = at; len = end - at }

-- the segments that end at these places, the first of which begins at at
abbrev pub segs_of : ℕ → List ℕ → List Seg
segs_of at [] = []
segs_of at (e ∷ es) = seg_of at e ∷ segs_of e es

-- the bytes of a segment
abbrev pub spelt : List ℕ → Seg → List ℕ
spelt bytes k = part k.at (k.at + k.len) bytes

-- no value
abbrev pub void : Slot
void = record { kind = 0; parent = 0; key = 0; len = 0; «data» = 0 }

-- a value of a kind under a place, with a key
abbrev pub keyed_slot : ℕ → ℕ → Seg → Slot
keyed_slot kind p k = record { kind = kind; parent = p; key = k.at; len = k.len; «data» = 0 }

-- v hangs under the place p, with the key
unfoldable pub mine_s : List ℕ → Slot → ℕ → List ℕ → Bool
mine_s bytes v p key = pick (eqb v.parent p) (keyed bytes v key) false

-- the newest of the values, the first of which is number n: a key's value is what was hung up last
abbrev pub look_s : List ℕ → ℕ → List Slot → ℕ → List ℕ → Option ℕ → Option ℕ
look_s bytes n [] p key best = best
look_s bytes n (v ∷ vs) p key best = look_s bytes (n + 1) vs p key (pick (mine_s bytes v p key) (Some n) best)

-- what a step on the tree leaves: the values, and the place that it comes to; or the number of its fault
pub data Grown : Type 0 where
  grown : List Slot → ℕ → Grown
  stuck : ℕ → Grown

abbrev pub onward : Grown → (List Slot → ℕ → Grown) → Grown
onward (grown vs p) f = f vs p
onward (stuck n) f = stuck n

module _ (limit : ℕ) where
  -- "A value made"; 16: the one above the limit
  unfoldable pub make_s : List Slot → Slot → Grown
  make_s vs v = pick (leb limit (length vs)) (stuck 16) (grown (vs ++ (v ∷ [])) (length vs + 2))

  -- "walks or makes tables and replaces anything else on its way by an empty table"
  abbrev pub enter_by : List Slot → ℕ → Seg → Option ℕ → Grown
  enter_by vs p k (Some n) = pick (eqb (get_or vs n void).kind 5) (grown vs (n + 2)) (make_s vs (keyed_slot 5 p k))
  enter_by vs p k None = make_s vs (keyed_slot 5 p k)

  unfoldable pub enter_s : List ℕ → List Slot → ℕ → Seg → Grown
  enter_s bytes vs p k = enter_by vs p k (look_s bytes 0 vs p (spelt bytes k) None)

  -- along a path
  abbrev pub down_s : List ℕ → List Seg → List Slot → ℕ → Grown
  down_s bytes [] vs p = grown vs p
  down_s bytes (k ∷ ks) vs p = onward (enter_s bytes vs p k) (down_s bytes ks)

  -- "the array and each table of `[[..]]`"; 13: "`[[..]]` over something not an array". An array's item has no key
  abbrev pub item_s : List Slot → ℕ → Grown
  item_s vs p = make_s vs (record { kind = 5; parent = p; key = 0; len = 0; «data» = 0 })

  abbrev pub push_by : List Slot → ℕ → Seg → Option ℕ → Grown
  push_by vs p k (Some n) = pick (eqb (get_or vs n void).kind 4) (item_s vs (n + 2)) (stuck 13)
  push_by vs p k None = onward (make_s vs (keyed_slot 4 p k)) item_s

  unfoldable pub push_s : List ℕ → List Slot → ℕ → Seg → Grown
  push_s bytes vs p k = push_by vs p k (look_s bytes 0 vs p (spelt bytes k) None)

  -- along all but the last segment, and f there; an empty path leads nowhere
  abbrev pub to_last_s : List ℕ → (List Slot → ℕ → Seg → Grown) → List Seg → List Slot → ℕ → Grown
  to_last_s bytes f [] vs p = stuck 0
  to_last_s bytes f (k ∷ []) vs p = f vs p k
  to_last_s bytes f (k ∷ j ∷ ks) vs p = onward (enter_s bytes vs p k) (to_last_s bytes f (j ∷ ks))

-- value number n hung up: "a repeated key overwrites", since the newest counts
abbrev pub hang_s : ℕ → List Slot → ℕ → Seg → Grown
hang_s n vs p k = grown (set vs n (hung p k.at k.len (get_or vs n void))) p

unfoldable pub computes : Unit {0}
unfolding mine_s make_s enter_s push_s Rattle.tree.specs.Room.keyed
computes = tt
