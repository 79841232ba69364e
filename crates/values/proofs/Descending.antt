-- Along a key: what the loop keeps, one law for each way on and out of it, and the last segment.
use Prim.Native.Nat.{ℕ, zero, suc, ◌+◌, ◌-◌, ◌*◌, ◌≤◌, ◌<◌}
use mathlib.Core.List.{List, [], ◌∷◌, ◌++◌}
use mathlib.Core.Path.{◌≡◌, refl, sym, ap, subst, ◌∙◌}
use native.Mathlib.Omega.{arith}
use native.Mathlib.Numerals.{add-one}
use lib.ListN.{length, get_or, take, drop, set, length-set, drop_of_length-le}
use lib.Seq.{drop-cons}
use Rattle.std.specs.Prelude.{Result, Ok, Err}
use Rattle.meaning.specs.declared.Refused.{Refused}
use Rattle.laws.specs.Stored.{stored}
use Rattle.scalar.specs.Stores.{over}
use Rattle.scalar.specs.declared.key.Key.{Key}
use Rattle.tree.specs.declared.Slot.{Slot}
use Rattle.tree.specs.Room.{Sized, cell, slot_at, hung}
use Rattle.values.specs.declared.grow.Here.{Here}
use Rattle.values.specs.Out.{cells}
use Rattle.values.specs.Grow.{Seg, Grown, grown, stuck, seg_of, segs_of, void, onward, enter_s, down_s, push_s, to_last_s, hang_s}
use Rattle.values.specs.declared.grow.Segment.{Segment}
use Rattle.values.specs.Carries.{slots_of, Grows, Lies, Enters, Rising, Paths, start_of, last_of, Keyed, Hangs, Grew}
use Rattle.values.proofs.Carrying.{length_cells, length_slots, over_over, slot_carried, sized_at, sized_set, set_over}
use Rattle.values.proofs.Growing.{reached, grew_over, Came, came, came_on, grew_same, grew_from, stays}

-- the walk so far: i segments are walked, and what is left to walk is what was meant
pub record Walking (limit : ℕ) (tree₀ store : List ℕ) (made p : ℕ) (key : Key) (at n : ℕ) (tree : List ℕ) (here : Here) (from i : ℕ) : Type 0 where
  pub more : made ≤ here.made
  pub bound : here.limit ≡ limit
  pub grows : Grows here.limit tree here.made
  pub long : length tree ≡ length tree₀
  pub laid : tree ≡ over (cells (slots_of tree here.made)) tree₀
  pub rising : Rising store from (drop i (take n key.ends))
  pub left : down_s limit store (segs_of from (drop i (take n key.ends))) (slots_of tree here.made) here.place ≡ down_s limit store (segs_of at (take n key.ends)) (slots_of tree₀ made) p

module _ (limit : ℕ) (tree₀ store : List ℕ) (made p : ℕ) (key : Key) (at n : ℕ) (h : Paths limit tree₀ store made key at n) where
  module _ (tree : List ℕ) (here : Here) (from i : ℕ) (w : Walking limit tree₀ store made p key at n tree here from i) (l : i < length (take n key.ends)) where
    end : ℕ
    end = get_or (take n key.ends) i 0

    next : drop i (take n key.ends) ≡ get_or (take n key.ends) i 0 ∷ drop (i + 1) (take n key.ends)
    next = rw add-one (drop-cons (take n key.ends) i 0 l)

    rises : Lies store from (get_or (take n key.ends) i 0) × Rising store (get_or (take n key.ends) i 0) (drop (i + 1) (take n key.ends))
    rises = rw next at w.rising

    meant : ℕ → Grown
    meant m = enter_s m store (slots_of tree here.made) here.place (seg_of from (get_or (take n key.ends) i 0))

    then : List Slot → ℕ → Grown
    then = down_s limit store (segs_of (get_or (take n key.ends) i 0) (drop (i + 1) (take n key.ends)))

    step : onward (meant limit) then ≡ down_s limit store (segs_of at (take n key.ends)) (slots_of tree₀ made) p
    unfolding meant then
    step = rw next at w.left

    module _ (tree' : List ℕ) (r : Result Here Refused) (a : Grew here.limit tree tree' here.made (enter_s here.limit store (slots_of tree here.made) here.place (seg_of from (get_or (take n key.ends) i 0))) r) where
      stepped : Grew limit tree tree' here.made (meant limit) r
      unfolding meant
      stepped = rw w.bound at a

      pub walk_on : (there : Here) → r ≡ Ok there → Walking limit tree₀ store made p key at n tree' there (get_or (take n key.ends) i 0) (i + 1)
      unfolding then
      walk_on there q =
          let c : Came limit tree tree' here.made (meant limit) there = came limit tree tree' here.made (meant limit) r there (omega (arith, w.bound, w.grows.room)) (omega (arith, w.bound, w.grows.few)) stepped q in
          let k : length (cells (slots_of tree here.made)) ≤ length (cells (slots_of tree' there.made)) =
          omega (arith, length_cells (slots_of tree here.made), length_cells (slots_of tree' there.made), length_slots tree here.made, length_slots tree' there.made, c.more) in
          let d : tree' ≡ over (cells (slots_of tree' there.made)) tree₀ =
          c.laid ∙ ap (over (cells (slots_of tree' there.made))) w.laid ∙ over_over (cells (slots_of tree' there.made)) (cells (slots_of tree here.made)) tree₀ k in
          record {
            more = omega (arith, c.more, w.more);
            bound = c.bound;
            grows = c.grows;
            long = c.long ∙ w.long;
            laid = d;
            rising = rises.1;
            left = sym (ap (λ (g : Grown). onward g then) c.is) ∙ step;
          }

  pub walk_out : (tree : List ℕ) (here : Here) (from i : ℕ) → Walking limit tree₀ store made p key at n tree here from i → length (take n key.ends) ≤ i
      → Grew limit tree₀ tree made (down_s limit store (segs_of at (take n key.ends)) (slots_of tree₀ made) p) (Ok here)
  walk_out tree here from i w b =
      let d : drop i (take n key.ends) ≡ [] = drop_of_length-le (take n key.ends) b in
      let k : Grows limit tree here.made = rw w.bound at w.grows in
      let s : Grew limit tree tree here.made (grown (slots_of tree here.made) here.place) (Ok here) =
      subst (λ (m : ℕ). Grew limit tree tree here.made (grown (slots_of tree here.made) here.place) (reached m here.made here.place)) (sym w.bound)
      (grew_same limit tree here.made here.place k) in
      let g : Grew limit tree₀ tree made (grown (slots_of tree here.made) here.place) (Ok here) =
      grew_from limit tree₀ tree tree made here.made (slots_of tree here.made) (grown (slots_of tree here.made) here.place) (Ok here) w.long w.laid (length_slots tree here.made) w.more s in
      let e : grown (slots_of tree here.made) here.place ≡ down_s limit store (segs_of at (take n key.ends)) (slots_of tree₀ made) p = rw d at w.left in
      rw e at g

-- ---- the last segment
abbrev last_seg : Key → ℕ → Seg
last_seg key at = seg_of (start_of at key.ends (key.n - 1)) (get_or key.ends (key.n - 1) 0)

rising_take : (store : List ℕ) (at : ℕ) (es : List ℕ) (i n : ℕ) → i ≤ n → Rising store at (take n es) → Rising store at (take i es)
rising_take store at es zero n l h = tt
rising_take store at [] (suc i) n l h = tt
rising_take store at (e ∷ es) (suc i) zero l h = absurd (omega arith)
rising_take store at (e ∷ es) (suc i) (suc n) l h = (h.0, rising_take store e es i n (omega arith) h.1)

start_next : (at e : ℕ) (es : List ℕ) (i : ℕ) → start_of e es i ≡ get_or (e ∷ es) i 0
start_next at e es zero = refl
start_next at e es (suc i) = refl

rising_at : (store : List ℕ) (at : ℕ) (es : List ℕ) (i n : ℕ) → i < n → i < length es → Rising store at (take n es) → Lies store (start_of at es i) (get_or es i 0)
rising_at store at [] i n l k h = absurd (omega arith)
rising_at store at (e ∷ es) i zero l k h = absurd (omega arith)
rising_at store at (e ∷ es) zero (suc n) l k h = h.0
rising_at store at (e ∷ es) (suc i) (suc n) l k h = rw (start_next at e es i) at (rising_at store e es i n (omega arith) (omega arith) h.1)

segs_snoc : (at : ℕ) (es : List ℕ) (i : ℕ) → i < length es → segs_of at (take (suc i) es) ≡ segs_of at (take i es) ++ (seg_of (start_of at es i) (get_or es i 0) ∷ [])
segs_snoc at [] i l = absurd (omega arith)
segs_snoc at (e ∷ es) zero l = refl
segs_snoc at (e ∷ es) (suc i) l =
    ap (λ (ks : List Seg). seg_of at e ∷ ks) (segs_snoc e es i (omega arith) ∙ ap (λ (k : ℕ). segs_of e (take i es) ++ (seg_of k (get_or es i 0) ∷ [])) (start_next at e es i))

module _ (limit : ℕ) (bytes : List ℕ) (f : List Slot → ℕ → Seg → Grown) (k : Seg) where
  to_last_by : (ks : List Seg) (g : Grown)
      → ((vs : List Slot) (p : ℕ) → to_last_s limit bytes f (ks ++ (k ∷ [])) vs p ≡ onward (down_s limit bytes ks vs p) (λ ws q. f ws q k))
      → onward g (to_last_s limit bytes f (ks ++ (k ∷ []))) ≡ onward (onward g (down_s limit bytes ks)) (λ ws q. f ws q k)
  to_last_by ks (grown vs p) ih = ih vs p
  to_last_by ks (stuck n) ih = refl

  -- along all but the last, and f there
  pub to_last : (ks : List Seg) (vs : List Slot) (p : ℕ) → to_last_s limit bytes f (ks ++ (k ∷ [])) vs p ≡ onward (down_s limit bytes ks vs p) (λ ws q. f ws q k)
  to_last [] vs p = refl
  to_last (j ∷ []) vs p = to_last_by [] (enter_s limit bytes vs p j) (to_last [])
  to_last (j ∷ i ∷ ks) vs p = to_last_by (i ∷ ks) (enter_s limit bytes vs p j) (to_last (i ∷ ks))

-- ---- push_path, assign
module _ (limit : ℕ) (tree store : List ℕ) (made p : ℕ) (key : Key) (at : ℕ) (h : Keyed limit tree store made key at) where
  pub last_paths : Paths limit tree store made key at (key.n - 1)
  last_paths = record {
    grows = h.path.grows;
    rising = rising_take store at key.ends (key.n - 1) key.n (omega arith) h.path.rising;
    few = omega (arith, h.path.few);
    there = omega (arith, h.path.there);
  }

  whole_path : (f : List Slot → ℕ → Seg → Grown) → to_last_s limit store f (segs_of at (take key.n key.ends)) (slots_of tree made) p
      ≡ onward (down_s limit store (segs_of at (take (key.n - 1) key.ends)) (slots_of tree made) p)
      (λ ws q. f ws q (last_seg key at))
  whole_path f =
      let e : key.n ≡ suc (key.n - 1) = omega (arith, h.some) in
      let s : segs_of at (take key.n key.ends) ≡ segs_of at (take (key.n - 1) key.ends) ++ (last_seg key at ∷ []) =
      ap (λ (i : ℕ). segs_of at (take i key.ends)) e ∙ segs_snoc at key.ends (key.n - 1) (omega (arith, h.some, h.path.there)) in
      ap (λ (ks : List Seg). to_last_s limit store f ks (slots_of tree made) p) s
      ∙ to_last limit store f (last_seg key at) (segs_of at (take (key.n - 1) key.ends)) (slots_of tree made) p

  module _ (tree' : List ℕ) (r : Result Here Refused) (a : Grew limit tree tree' made (down_s limit store (segs_of at (take (key.n - 1) key.ends)) (slots_of tree made) p) r) where
    walked : Grown
    walked = down_s limit store (segs_of at (take (key.n - 1) key.ends)) (slots_of tree made) p

    -- the step at the last segment
    module _ (there : Here) (e : r ≡ Ok there) (s : Segment) (x : s ≡ last_of key at) where
      last_came : Came limit tree tree' made walked there
      unfolding walked
      last_came = came limit tree tree' made walked r there h.path.grows.room h.path.grows.few a e

      last_lies : Lies store s.from s.end
      last_lies = rw x (rising_at store at key.ends (key.n - 1) key.n (omega (arith, h.some)) (omega (arith, h.some, h.path.there)) h.path.rising)

      pub last_enters : Enters there.limit tree' store there.made s.from s.end
      last_enters = record { grows = last_came.grows; lies = last_lies }

      pub last_hangs : (n : ℕ) → n < made → Hangs there.limit tree' there.made s.from s.end n
      last_hangs n l = record { keys = record { grows = last_came.grows; up = last_lies.up; low = last_lies.low }; below = omega (arith, last_came.more) }

      last_done : (f : ℕ → List Slot → ℕ → Seg → Grown) (tree'' : List ℕ) (g : Result Here Refused)
          → Grew there.limit tree' tree'' there.made (f there.limit (slots_of tree' there.made) there.place (seg_of s.from s.end)) g
          → Grew limit tree tree'' made (to_last_s limit store (f limit) (segs_of at (take key.n key.ends)) (slots_of tree made) p) g
      unfolding walked
      last_done f tree'' g w =
          let k : Grew limit tree tree'' made (onward walked (λ ws q. f limit ws q (seg_of s.from s.end))) g =
          came_on limit tree tree' tree'' made walked there (λ m ws q. f m ws q (seg_of s.from s.end)) g last_came w in
          rw (whole_path (f limit)) (rw x at k)

      pub push_done : (tree'' : List ℕ) (g : Result Here Refused)
          → Grew there.limit tree' tree'' there.made (push_s there.limit store (slots_of tree' there.made) there.place (seg_of s.from s.end)) g
          → Grew limit tree tree'' made (to_last_s limit store (push_s limit store) (segs_of at (take key.n key.ends)) (slots_of tree made) p) g
      push_done tree'' g w = last_done (λ m. push_s m store) tree'' g w

      pub hang_done : (n : ℕ) (tree'' : List ℕ) (g : Result Here Refused)
          → Grew there.limit tree' tree'' there.made (hang_s n (slots_of tree' there.made) there.place (seg_of s.from s.end)) g
          → Grew limit tree tree'' made (to_last_s limit store (hang_s n) (segs_of at (take key.n key.ends)) (slots_of tree made) p) g
      hang_done n tree'' g w = last_done (λ m. hang_s n) tree'' g w

    pub last_fault : (f : List Slot → ℕ → Seg → Grown) (e : Refused) → r ≡ Err e → (v : Result Here Refused) → v ≡ Err e
        → Grew limit tree tree' made (to_last_s limit store f (segs_of at (take key.n key.ends)) (slots_of tree made) p) v
    unfolding walked
    last_fault f e q v z = rw (whole_path f) (stays limit tree tree' made walked (λ ws c. f ws c (last_seg key at)) r e v a q z)

-- ---- hang_up
module _ (limit : ℕ) (tree : List ℕ) (made at end n : ℕ) (h : Hangs limit tree made at end n) where
  pub hangs_is : (p : ℕ) (tree' : List ℕ) → p < 65536 → tree' ≡ stored tree (32 * n) (cell (hung p at (end - at) (slot_at tree n)))
      → Grew limit tree tree' made (hang_s n (slots_of tree made) p (seg_of at end)) (reached limit made p)
  hangs_is p tree' b e =
      let k : length (slots_of tree made) ≡ made = length_slots tree made in
      let l : n < length (slots_of tree made) = omega (arith, h.below) in
      let v : Slot = get_or (slots_of tree made) n void in
      let w : Slot = hung p at (end - at) v in
      let s : Sized v = sized_at (slots_of tree made) n h.keys.grows.carried.sized l in
      let t : Sized w = record { parent = b; key = omega (arith, h.keys.up, h.keys.low); len = omega (arith, h.keys.up, h.keys.low); bits = s.bits } in
      let m : length (set (slots_of tree made) n w) ≡ made = length-set (slots_of tree made) n w ∙ k in
      let o : tree' ≡ over (cells (set (slots_of tree made) n w)) tree =
      e ∙ ap (λ (x : Slot). stored tree (32 * n) (cell (hung p at (end - at) x))) (slot_carried tree (slots_of tree made) h.keys.grows.carried n l)
      ∙ set_over tree (slots_of tree made) h.keys.grows.carried n w l in
      let g : Grew limit tree tree' made (grown (set (slots_of tree made) n w) p) (reached limit (length (set (slots_of tree made) n w)) p) =
      grew_over limit tree tree' made (set (slots_of tree made) n w) p h.keys.grows.room (omega arith) (omega (arith, h.keys.grows.most)) (sized_set (slots_of tree made) n w h.keys.grows.carried.sized t) o in
      rw m at g
