-- What callers cite: a step over a store that begins with bytes is the step over those bytes, where all keys lie in them; and its keys do again.
use Prim.Native.Nat.{ℕ, zero, suc, ◌+◌, ◌-◌, ◌≤◌, ◌<◌}
use mathlib.Core.Bool.{Bool, false}
use mathlib.Core.List.{List, [], ◌∷◌, ◌++◌}
use mathlib.Core.Path.{◌≡◌, refl, sym, ap, ◌∙◌}
use native.Mathlib.Omega.{arith}
use borrow.Author.Tests.{le-leb}
use lib.Dec.{eqb, leb}
use lib.ListN.{length, get_or, take, drop, set, length-append, length-drop}
use lib.Seq.{take-append-le, drop-append-le, take_at}
use Rattle.meaning.specs.Base.{pick, same, part}
use Rattle.laws.specs.Cases.{on}
use Rattle.scalar.specs.Stores.{over}
use Rattle.scalar.specs.Splits.{flat, ends_of}
use Rattle.scalar.specs.declared.key.Key.{Key}
use Rattle.tree.specs.declared.Slot.{Slot}
use Rattle.std.specs.Prelude.{Option, Some, None}
use Rattle.tree.specs.Room.{keyed, hung}
use Rattle.values.specs.Grow.{Seg, Grown, grown, stuck, segs_of, spelt, void, keyed_slot, mine_s, look_s, onward, make_s, enter_by, enter_s, down_s, item_s, push_by, push_s, to_last_s, hang_s}
use Rattle.values.specs.Carries.{Begins, AllWithin, SegsWithin, GrownWithin, Rising}

-- ---- keys lie in more bytes too
pub within_more : (top top' : ℕ) (vs : List Slot) → top ≤ top' → AllWithin top vs → AllWithin top' vs
within_more top top' [] l h = tt
within_more top top' (v ∷ vs) l h = (omega (arith, h.0), within_more top top' vs l h.1)

pub within_append : (top : ℕ) (vs ws : List Slot) → AllWithin top vs → AllWithin top ws → AllWithin top (vs ++ ws)
within_append top [] ws h k = k
within_append top (v ∷ vs) ws h k = (h.0, within_append top vs ws h.1 k)

within_set : (top : ℕ) (vs : List Slot) (n : ℕ) (v : Slot) → AllWithin top vs → v.key + v.len ≤ top → AllWithin top (set vs n v)
within_set top [] n v h k = tt
within_set top (w ∷ vs) zero v h k = (k, h.1)
within_set top (w ∷ vs) (suc n) v h k = (h.0, within_set top vs n v h.1 k)

-- ---- what a step leaves lies in them again
module _ (limit top : ℕ) where
  make_within : (vs : List Slot) (v : Slot) → AllWithin top vs → v.key + v.len ≤ top → GrownWithin top (make_s limit vs v)
  unfolding make_s
  make_within vs v h k = on (leb limit (length vs)) (λ t. rw t tt) (λ t. rw t (within_append top vs (v ∷ []) h (k, tt)))

  module _ (bytes : List ℕ) where
    enter_by_lem : (vs : List Slot) (p : ℕ) (k : Seg) (f : Option ℕ) → AllWithin top vs → k.at + k.len ≤ top → GrownWithin top (enter_by limit vs p k f)
    enter_by_lem vs p k (Some n) h l = on (eqb (get_or vs n void).kind 5) (λ t. rw t h) (λ t. rw t (make_within vs (keyed_slot 5 p k) h l))
    enter_by_lem vs p k None h l = make_within vs (keyed_slot 5 p k) h l

    pub enter_within : (vs : List Slot) (p : ℕ) (k : Seg) → AllWithin top vs → k.at + k.len ≤ top → GrownWithin top (enter_s limit bytes vs p k)
    unfolding enter_s
    enter_within vs p k h l = enter_by_lem vs p k (look_s bytes 0 vs p (spelt bytes k) None) h l

    onward_within : (g : Grown) (f : List Slot → ℕ → Grown) → GrownWithin top g → ((vs : List Slot) (p : ℕ) → AllWithin top vs → GrownWithin top (f vs p)) → GrownWithin top (onward g f)
    onward_within (grown vs p) f h k = k vs p h
    onward_within (stuck n) f h k = tt

    pub down_within : (ks : List Seg) (vs : List Slot) (p : ℕ) → AllWithin top vs → SegsWithin top ks → GrownWithin top (down_s limit bytes ks vs p)
    down_within [] vs p h l = h
    down_within (k ∷ ks) vs p h l =
        onward_within (enter_s limit bytes vs p k) (down_s limit bytes ks) (enter_within vs p k h l.0) (λ ws q w. down_within ks ws q w l.1)

    item_within : (vs : List Slot) (p : ℕ) → AllWithin top vs → GrownWithin top (item_s limit vs p)
    item_within vs p h = make_within vs (record { kind = 5; parent = p; key = 0; len = 0; «data» = 0 }) h (omega arith)

    push_by_lem : (vs : List Slot) (p : ℕ) (k : Seg) (f : Option ℕ) → AllWithin top vs → k.at + k.len ≤ top → GrownWithin top (push_by limit vs p k f)
    push_by_lem vs p k (Some n) h l = on (eqb (get_or vs n void).kind 4) (λ t. rw t (item_within vs (n + 2) h)) (λ t. rw t tt)
    push_by_lem vs p k None h l = onward_within (make_s limit vs (keyed_slot 4 p k)) (item_s limit) (make_within vs (keyed_slot 4 p k) h l) item_within

    pub push_within : (vs : List Slot) (p : ℕ) (k : Seg) → AllWithin top vs → k.at + k.len ≤ top → GrownWithin top (push_s limit bytes vs p k)
    unfolding push_s
    push_within vs p k h l = push_by_lem vs p k (look_s bytes 0 vs p (spelt bytes k) None) h l

    pub hang_within : (n : ℕ) (vs : List Slot) (p : ℕ) (k : Seg) → AllWithin top vs → k.at + k.len ≤ top → GrownWithin top (hang_s n vs p k)
    hang_within n vs p k h l = within_set top vs n (hung p k.at k.len (get_or vs n void)) h l

    last_within : (f : List Slot → ℕ → Seg → Grown) → ((vs : List Slot) (p : ℕ) (k : Seg) → AllWithin top vs → k.at + k.len ≤ top → GrownWithin top (f vs p k))
        → (ks : List Seg) (vs : List Slot) (p : ℕ) → AllWithin top vs → SegsWithin top ks → GrownWithin top (to_last_s limit bytes f ks vs p)
    last_within f w [] vs p h l = tt
    last_within f w (k ∷ []) vs p h l = w vs p k h l.0
    last_within f w (k ∷ j ∷ ks) vs p h l =
        onward_within (enter_s limit bytes vs p k) (to_last_s limit bytes f (j ∷ ks)) (enter_within vs p k h l.0) (λ ws q v. last_within f w (j ∷ ks) ws q v l.1)

    pub push_path_within : (ks : List Seg) (vs : List Slot) (p : ℕ) → AllWithin top vs → SegsWithin top ks → GrownWithin top (to_last_s limit bytes (push_s limit bytes) ks vs p)
    push_path_within = last_within (push_s limit bytes) push_within

    pub assign_within : (n : ℕ) (ks : List Seg) (vs : List Slot) (p : ℕ) → AllWithin top vs → SegsWithin top ks → GrownWithin top (to_last_s limit bytes (hang_s n) ks vs p)
    assign_within n = last_within (hang_s n) (hang_within n)

-- ---- over the store as over its bytes
module _ (store bytes : List ℕ) (b : Begins store bytes) where
  pub bytes_fit : length bytes ≤ length store
  bytes_fit = omega (arith, ap length b.is, length-append bytes (drop (length bytes) store), length-drop (length bytes) store)

  pub part_begins : (from end : ℕ) → from ≤ end → end ≤ length bytes → part from end store ≡ part from end bytes
  part_begins from end l h =
      let d : drop from (over bytes store) ≡ drop from bytes ++ drop (length bytes) store = drop-append-le from bytes (drop (length bytes) store) (omega arith) in
      ap (λ (s : List ℕ). take (end - from) (drop from s)) b.is
      ∙ ap (take (end - from)) d
      ∙ take-append-le (end - from) (drop from bytes) (drop (length bytes) store) (omega (arith, length-drop from bytes))

  keyed_begins : (v : Slot) (key : List ℕ) → v.key + v.len ≤ length bytes → keyed store v key ≡ keyed bytes v key
  unfolding keyed
  keyed_begins v key h =
      rw (le-leb (v.key + v.len) (length store) (omega (arith, bytes_fit)), le-leb (v.key + v.len) (length bytes) h)
      (ap (λ (s : List ℕ). same s key) (part_begins v.key (v.key + v.len) (omega arith) h))

  mine_begins : (v : Slot) (p : ℕ) (key : List ℕ) → v.key + v.len ≤ length bytes → mine_s store v p key ≡ mine_s bytes v p key
  unfolding mine_s
  mine_begins v p key h = ap (λ (x : Bool). pick (eqb v.parent p) x false) (keyed_begins v key h)

  pub look_begins : (n : ℕ) (vs : List Slot) (p : ℕ) (key : List ℕ) (best : Option ℕ) → AllWithin (length bytes) vs → look_s store n vs p key best ≡ look_s bytes n vs p key best
  look_begins n [] p key best h = refl
  look_begins n (v ∷ vs) p key best h =
      look_begins (n + 1) vs p key (pick (mine_s store v p key) (Some n) best) h.1
      ∙ ap (λ (x : Bool). look_s bytes (n + 1) vs p key (pick x (Some n) best)) (mine_begins v p key h.0)

  module _ (vs : List Slot) (p : ℕ) (k : Seg) (h : AllWithin (length bytes) vs) (l : k.at + k.len ≤ length bytes) where
    same_look : look_s store 0 vs p (spelt store k) None ≡ look_s bytes 0 vs p (spelt bytes k) None
    same_look = ap (λ (s : List ℕ). look_s store 0 vs p s None) (part_begins k.at (k.at + k.len) (omega arith) l) ∙ look_begins 0 vs p (spelt bytes k) None h

    pub enter_begins : (limit : ℕ) → enter_s limit store vs p k ≡ enter_s limit bytes vs p k
    unfolding enter_s
    enter_begins limit = ap (enter_by limit vs p k) same_look

    pub push_begins : (limit : ℕ) → push_s limit store vs p k ≡ push_s limit bytes vs p k
    unfolding push_s
    push_begins limit = ap (push_by limit vs p k) same_look

  module _ (limit : ℕ) where
    onward_same : (g : Grown) (f e : List Slot → ℕ → Grown) → GrownWithin (length bytes) g → ((vs : List Slot) (p : ℕ) → AllWithin (length bytes) vs → f vs p ≡ e vs p) → onward g f ≡ onward g e
    onward_same (grown vs p) f e h k = k vs p h
    onward_same (stuck n) f e h k = refl

    pub down_begins : (ks : List Seg) (vs : List Slot) (p : ℕ) → AllWithin (length bytes) vs → SegsWithin (length bytes) ks → down_s limit store ks vs p ≡ down_s limit bytes ks vs p
    down_begins [] vs p h l = refl
    down_begins (k ∷ ks) vs p h l =
        ap (λ (g : Grown). onward g (down_s limit store ks)) (enter_begins vs p k h l.0 limit)
        ∙ onward_same (enter_s limit bytes vs p k) (down_s limit store ks) (down_s limit bytes ks) (enter_within limit (length bytes) bytes vs p k h l.0) (λ ws q w. down_begins ks ws q w l.1)

    last_begins : (f e : List Slot → ℕ → Seg → Grown) → ((vs : List Slot) (p : ℕ) (k : Seg) → AllWithin (length bytes) vs → k.at + k.len ≤ length bytes → f vs p k ≡ e vs p k)
        → (ks : List Seg) (vs : List Slot) (p : ℕ) → AllWithin (length bytes) vs → SegsWithin (length bytes) ks → to_last_s limit store f ks vs p ≡ to_last_s limit bytes e ks vs p
    last_begins f e w [] vs p h l = refl
    last_begins f e w (k ∷ []) vs p h l = w vs p k h l.0
    last_begins f e w (k ∷ j ∷ ks) vs p h l =
        ap (λ (g : Grown). onward g (to_last_s limit store f (j ∷ ks))) (enter_begins vs p k h l.0 limit)
        ∙ onward_same (enter_s limit bytes vs p k) (to_last_s limit store f (j ∷ ks)) (to_last_s limit bytes e (j ∷ ks)) (enter_within limit (length bytes) bytes vs p k h l.0) (λ ws q v. last_begins f e w (j ∷ ks) ws q v l.1)

    pub push_path_begins : (ks : List Seg) (vs : List Slot) (p : ℕ) → AllWithin (length bytes) vs → SegsWithin (length bytes) ks
        → to_last_s limit store (push_s limit store) ks vs p ≡ to_last_s limit bytes (push_s limit bytes) ks vs p
    push_path_begins = last_begins (push_s limit store) (push_s limit bytes) (λ vs p k h l. push_begins vs p k h l limit)

    pub assign_begins : (n : ℕ) (ks : List Seg) (vs : List Slot) (p : ℕ) → AllWithin (length bytes) vs → SegsWithin (length bytes) ks
        → to_last_s limit store (hang_s n) ks vs p ≡ to_last_s limit bytes (hang_s n) ks vs p
    assign_begins n = last_begins (hang_s n) (hang_s n) (λ vs p k h l. refl)

-- ---- the segments of a key that was laid
pub ends_within : (top at : ℕ) (ks : List (List ℕ)) → at + length (flat ks) ≤ top → SegsWithin top (segs_of at (ends_of at ks))
ends_within top at [] h = tt
ends_within top at (k ∷ ks) h = (omega (arith, length-append k (flat ks)), ends_within top (at + length k) ks (omega (arith, length-append k (flat ks))))

pub ends_rising : (store : List ℕ) (at : ℕ) (ks : List (List ℕ)) → at + length (flat ks) ≤ length store → at + length (flat ks) < 65536 → Rising store at (ends_of at ks)
ends_rising store at [] h l = tt
ends_rising store at (k ∷ ks) h l = (
  record { up = omega arith; within = omega (arith, length-append k (flat ks)); low = omega (arith, length-append k (flat ks)) },
  ends_rising store (at + length k) ks (omega (arith, length-append k (flat ks))) (omega (arith, length-append k (flat ks))),
)

length_ends : (at : ℕ) (ks : List (List ℕ)) → length (ends_of at ks) ≡ length ks
length_ends at [] = refl
length_ends at (k ∷ ks) = ap suc (length_ends (at + length k) ks)

module _ (key : Key) (at : ℕ) (ks : List (List ℕ)) (rest : List ℕ) (e : key.ends ≡ ends_of at ks ++ rest) (n : key.n ≡ length ks) where
  -- all of them
  pub key_ends : take key.n key.ends ≡ ends_of at ks
  key_ends = ap (take key.n) e ∙ take_at (ends_of at ks) rest key.n (length_ends at ks ∙ sym n)

  pub key_there : key.n ≤ length key.ends
  key_there = omega (arith, ap length e, length-append (ends_of at ks) rest, length_ends at ks)
