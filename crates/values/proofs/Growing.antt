-- What each step leaves: one law for each way out.
use Prim.Native.Nat.{ℕ, ◌+◌, ◌-◌, ◌*◌, ◌≤◌, ◌<◌}
use mathlib.Core.List.{List, [], ◌∷◌, ◌++◌}
use mathlib.Core.Path.{◌≡◌, refl, sym, ap, ◌∙◌}
use native.Mathlib.Omega.{arith}
use borrow.Author.Tests.{le-leb, lt-leb, eq-eqb, ne_eqb}
use mir.Syntax.{w16, w64}
use mir.Val.{Fits}
use lib.ListN.{length, get_or, take, drop, length-append}
use Rattle.std.specs.Prelude.{Result, Ok, Err}
use Rattle.meaning.specs.declared.Refused.{Refused}
use Rattle.meaning.specs.declared.Refused.TheVariants.{TooManyValues, NotAnArray}
use Rattle.meaning.specs.Numbered.{number}
use Rattle.meaning.specs.Refusal.{R, ok, bad}
use Rattle.laws.specs.Stored.{stored}
use Rattle.scalar.specs.Stores.{over}
use Rattle.tree.specs.declared.Slot.{Slot}
use Rattle.std.specs.Prelude.{Option, Some, None}
use Rattle.tree.specs.Room.{Holds, Finds, look, cell, slot_at}
use Rattle.tree.specs.Laws.{found_below}
use Rattle.values.specs.declared.grow.Here.{Here}
use Rattle.values.specs.Out.{cells}
use Rattle.values.specs.Grow.{Grown, grown, stuck, seg_of, spelt, void, keyed_slot, look_s, onward, make_s, enter_s, item_s, push_s}
use Rattle.values.specs.Carries.{slots_of, AllSized, Grows, Makes, Keys, Numbered, Seeks, Sought, Enters, numbered, Grew}
use Rattle.values.proofs.Carrying.{length_cells, length_over, over_carries, sized_snoc, length_slots, put_over, slot_carried, slots_are, over_over, look_is}

-- a step came to a place
abbrev pub reached : ℕ → ℕ → ℕ → Result Here Refused
reached limit made p = Ok (record { made = made; limit = limit; place = p })

-- a room that a step left
pub grew_over : (limit : ℕ) (tree tree' : List ℕ) (made : ℕ) (vs : List Slot) (p : ℕ) → 32 * limit ≤ length tree → made ≤ length vs → length vs ≤ limit
    → AllSized vs → tree' ≡ over (cells vs) tree → Grew limit tree tree' made (grown vs p) (reached limit (length vs) p)
grew_over limit tree tree' made vs p f m l s e =
    record {
      says = refl;
      long = ap length e ∙ length_over (cells vs) tree (omega (arith, length_cells vs));
      kept = record { more = m; most = l; carried = over_carries tree tree' vs s (omega arith) e; is = e };
    }

-- ---- make_slot
module _ (limit : ℕ) (tree : List ℕ) (made : ℕ) (v : Slot) (h : Makes limit tree made v) where
  pub make_full : limit ≤ made → Grew limit tree tree made (make_s limit (slots_of tree made) v) (Err TooManyValues)
  unfolding make_s
  make_full l = rw (length_slots tree made, le-leb limit made l) (record { says = refl; long = refl; kept = tt })

  pub make_room : made < limit → Holds tree (made + 1)
  make_room l = record { fits = omega (arith, h.grows.room) }

  pub make_made : (tree' : List ℕ) → made < limit → tree' ≡ stored tree (32 * made) (cell v)
      → Grew limit tree tree' made (make_s limit (slots_of tree made) v) (reached limit (made + 1) (made + 2))
  unfolding make_s
  make_made tree' l e =
      let n : length (slots_of tree made) ≡ made = length_slots tree made in
      let k : length (slots_of tree made ++ (v ∷ [])) ≡ made + 1 = omega (arith, length-append (slots_of tree made) (v ∷ [])) in
      let o : tree' ≡ over (cells (slots_of tree made ++ (v ∷ []))) tree =
      e ∙ ap (λ (m : ℕ). stored tree (32 * m) (cell v)) (sym n) ∙ put_over tree (slots_of tree made) h.grows.carried v in
      let g : Grew limit tree tree' made (grown (slots_of tree made ++ (v ∷ [])) (made + 2)) (reached limit (length (slots_of tree made ++ (v ∷ []))) (made + 2)) =
      grew_over limit tree tree' made (slots_of tree made ++ (v ∷ [])) (made + 2) h.grows.room (omega arith) (omega arith) (sized_snoc (slots_of tree made) v h.grows.carried.sized h.sized) o in
      rw (n, lt-leb limit made l) (rw k at g)

-- ---- kind_at
pub holds_numbered : (tree : List ℕ) (made n : ℕ) → Numbered tree made n → Holds tree (n + 1)
holds_numbered tree made n h = record { fits = omega (arith, h.carried.fits, length_slots tree made, h.below) }

pub kind_is : (tree : List ℕ) (made n kind : ℕ) → Numbered tree made n → kind ≡ (slot_at tree n).kind → kind ≡ (get_or (slots_of tree made) n void).kind
kind_is tree made n kind h e =
    e ∙ ap (λ (w : Slot). w.kind) (slot_carried tree (slots_of tree made) h.carried n (omega (arith, length_slots tree made, h.below)))

-- ---- seek
pub seek_is : (tree store : List ℕ) (made p at end : ℕ) (r : Option ℕ) → Seeks tree store made at end
    → Finds 0 made (look tree store made p (take (end - at) (drop at store))) r
    → Sought made (look_s store 0 (slots_of tree made) p (spelt store (seg_of at end)) None) r
seek_is tree store made p at end r h f =
    let e : end - at ≡ at + (end - at) - at = omega arith in
    record {
      is = f.is ∙ look_is tree store made p (take (end - at) (drop at store)) ∙ ap (λ (k : ℕ). look_s store 0 (slots_of tree made) p (take k (drop at store)) None) e;
      below = f.below;
    }

-- ---- enter
module _ (limit : ℕ) (tree store : List ℕ) (made at end : ℕ) (h : Enters limit tree store made at end) where
  module _ (p : ℕ) (meant r : Option ℕ) (s : Sought made meant r) (n : ℕ) (e : r ≡ Some n) where
    pub enter_numbered : Numbered tree made n
    enter_numbered = record { carried = h.grows.carried; below = found_below r made n s.below e }

    pub enter_fits : Fits w64 (n + 2)
    enter_fits = record { fits = omega (arith, enter_numbered.below, h.grows.most, h.grows.few) }

    pub enter_place : Fits w16 (n + 2)
    enter_place = record { fits = omega (arith, enter_numbered.below, h.grows.most, h.grows.few) }

-- nothing is made
pub grew_same : (limit : ℕ) (tree : List ℕ) (made p : ℕ) → Grows limit tree made → Grew limit tree tree made (grown (slots_of tree made) p) (reached limit made p)
grew_same limit tree made p h =
    let n : length (slots_of tree made) ≡ made = length_slots tree made in
    let g : Grew limit tree tree made (grown (slots_of tree made) p) (reached limit (length (slots_of tree made)) p) =
    grew_over limit tree tree made (slots_of tree made) p h.room (omega arith) (omega (arith, h.most)) h.carried.sized h.carried.is in
    rw n at g

module _ (limit : ℕ) (tree store : List ℕ) (made p at end : ℕ) (r : Option ℕ)
    (s : Sought made (look_s store 0 (slots_of tree made) p (spelt store (seg_of at end)) None) r) where
  module _ (n q : ℕ) (e : r ≡ Some n) (k : q ≡ (get_or (slots_of tree made) n void).kind) where
    pub enter_walked : Enters limit tree store made at end → q ≡ 5
        → Grew limit tree tree made (enter_s limit store (slots_of tree made) p (seg_of at end)) (reached limit made (n + 2))
    unfolding enter_s
    enter_walked h f = rw (← s.is, e, ← k, eq-eqb q 5 f) (grew_same limit tree made (n + 2) h.grows)

    pub enter_over : (tree' : List ℕ) (g : Result Here Refused) → (q ≡ 5 → ⊥)
        → Grew limit tree tree' made (make_s limit (slots_of tree made) (keyed_slot 5 p (seg_of at end))) g
        → Grew limit tree tree' made (enter_s limit store (slots_of tree made) p (seg_of at end)) g
    unfolding enter_s
    enter_over tree' g f w = rw (← s.is, e, ← k, ne_eqb q 5 f) w

  pub enter_new : (tree' : List ℕ) (g : Result Here Refused) → r ≡ None
      → Grew limit tree tree' made (make_s limit (slots_of tree made) (keyed_slot 5 p (seg_of at end))) g
      → Grew limit tree tree' made (enter_s limit store (slots_of tree made) p (seg_of at end)) g
  unfolding enter_s
  enter_new tree' g e w = rw (← s.is, e) w

-- ---- one step after another
-- where an accepted step came to
pub record Came (limit : ℕ) (tree tree' : List ℕ) (made : ℕ) (g : Grown) (there : Here) : Type 0 where
  pub is : g ≡ grown (slots_of tree' there.made) there.place
  pub bound : there.limit ≡ limit
  pub grows : Grows there.limit tree' there.made
  pub long : length tree' ≡ length tree
  pub laid : tree' ≡ over (cells (slots_of tree' there.made)) tree
  pub more : made ≤ there.made

pub came : (limit : ℕ) (tree tree' : List ℕ) (made : ℕ) (g : Grown) (r : Result Here Refused) (there : Here) → 32 * limit ≤ length tree → limit < 65000
    → Grew limit tree tree' made g r → r ≡ Ok there → Came limit tree tree' made g there
came limit tree tree' made (grown vs p) r there f l h e =
    let x : ◌≡◌ {A = R Here} (ok (record { made = length vs; limit = limit; place = p })) (ok there) = sym h.says ∙ ap numbered e in
    let y : ◌≡◌ {A = Here} (record { made = length vs; limit = limit; place = p }) there = cc in
    let a : length vs ≡ there.made = ap (λ (z : Here). z.made) y in
    let u : limit ≡ there.limit = ap (λ (z : Here). z.limit) y in
    let b : p ≡ there.place = ap (λ (z : Here). z.place) y in
    let s : slots_of tree' there.made ≡ vs = ap (slots_of tree') (sym a) ∙ slots_are tree' vs h.kept.carried in
    record {
      is = rw (s, b);
      bound = sym u;
      grows = record { carried = rw s h.kept.carried; room = omega (arith, h.long); few = omega (arith, l); most = omega (arith, h.kept.most) };
      long = h.long;
      laid = rw s h.kept.is;
      more = omega (arith, h.kept.more);
    }
came limit tree tree' made (stuck n) r there f l h e =
    let x : ◌≡◌ {A = R Here} (bad n) (ok there) = sym h.says ∙ ap numbered e in let z : ◌≡◌ {A = ℕ} 0 1 = cc in absurd (omega arith)

-- a step from there is one from the start
pub grew_from : (limit : ℕ) (tree tree' tree'' : List ℕ) (made m : ℕ) (ws : List Slot) (g : Grown) (r : Result Here Refused)
    → length tree' ≡ length tree → tree' ≡ over (cells ws) tree → length ws ≡ m → made ≤ m
    → Grew limit tree' tree'' m g r → Grew limit tree tree'' made g r
grew_from limit tree tree' tree'' made m ws (grown vs p) r n e k l h =
    let c : length (cells ws) ≤ length (cells vs) = omega (arith, length_cells ws, length_cells vs, h.kept.more) in
    record {
      says = h.says;
      long = h.long ∙ n;
      kept = record {
        more = omega (arith, h.kept.more);
        most = h.kept.most;
        carried = h.kept.carried;
        is = h.kept.is ∙ ap (over (cells vs)) e ∙ over_over (cells vs) (cells ws) tree c;
      };
    }
grew_from limit tree tree' tree'' made m ws (stuck k) r n e q l h = record { says = h.says; long = h.long ∙ n; kept = tt }

-- from where a step came to
pub came_on : (limit : ℕ) (tree tree' tree'' : List ℕ) (made : ℕ) (g : Grown) (there : Here) (f : ℕ → List Slot → ℕ → Grown) (r : Result Here Refused)
    → Came limit tree tree' made g there → Grew there.limit tree' tree'' there.made (f there.limit (slots_of tree' there.made) there.place) r
    → Grew limit tree tree'' made (onward g (f limit)) r
came_on limit tree tree' tree'' made g there f r c h =
    rw c.is
    (grew_from limit tree tree' tree'' made there.made (slots_of tree' there.made) (f limit (slots_of tree' there.made) there.place) r
    c.long c.laid (length_slots tree' there.made) c.more (rw c.bound at h))

-- a refused step is refused whatever follows
pub stays : (limit : ℕ) (tree tree' : List ℕ) (made : ℕ) (g : Grown) (f : List Slot → ℕ → Grown) (r : Result Here Refused) (e : Refused) (v : Result Here Refused)
    → Grew limit tree tree' made g r → r ≡ Err e → v ≡ Err e → Grew limit tree tree' made (onward g f) v
stays limit tree tree' made (grown vs p) f r e v h q z =
    let x : ◌≡◌ {A = R Here} (ok (record { made = length vs; limit = limit; place = p })) (bad (number e)) = sym h.says ∙ ap numbered q in
    let y : ◌≡◌ {A = ℕ} 0 1 = cc in absurd (omega arith)
stays limit tree tree' made (stuck n) f r e v h q z = record { says = ap numbered (z ∙ sym q) ∙ h.says; long = h.long; kept = tt }

-- ---- push_new
module _ (limit : ℕ) (tree tree' : List ℕ) (made at end : ℕ) (h : Keys limit tree made at end) (p : ℕ) (r : Result Here Refused)
    (a : Grew limit tree tree' made (make_s limit (slots_of tree made) (keyed_slot 4 p (seg_of at end))) r) where
  module _ (there : Here) (e : r ≡ Ok there) where
    array_came : Came limit tree tree' made (make_s limit (slots_of tree made) (keyed_slot 4 p (seg_of at end))) there
    array_came = came limit tree tree' made (make_s limit (slots_of tree made) (keyed_slot 4 p (seg_of at end))) r there h.grows.room h.grows.few a e

    pub array_grows : Grows there.limit tree' there.made
    array_grows = array_came.grows

    pub array_item : (tree'' : List ℕ) (s : Result Here Refused) → Grew there.limit tree' tree'' there.made (item_s there.limit (slots_of tree' there.made) there.place) s
        → Grew limit tree tree'' made (onward (make_s limit (slots_of tree made) (keyed_slot 4 p (seg_of at end))) (item_s limit)) s
    array_item tree'' s w =
        came_on limit tree tree' tree'' made (make_s limit (slots_of tree made) (keyed_slot 4 p (seg_of at end))) there item_s s array_came w

-- ---- push
module _ (limit : ℕ) (tree store : List ℕ) (made p at end : ℕ) (r : Option ℕ)
    (s : Sought made (look_s store 0 (slots_of tree made) p (spelt store (seg_of at end)) None) r) where
  module _ (n q : ℕ) (e : r ≡ Some n) (k : q ≡ (get_or (slots_of tree made) n void).kind) where
    pub push_item : (tree' : List ℕ) (g : Result Here Refused) → q ≡ 4 → Grew limit tree tree' made (item_s limit (slots_of tree made) (n + 2)) g
        → Grew limit tree tree' made (push_s limit store (slots_of tree made) p (seg_of at end)) g
    unfolding push_s
    push_item tree' g f w = rw (← s.is, e, ← k, eq-eqb q 4 f) w

    pub push_clash : (q ≡ 4 → ⊥) → Grew limit tree tree made (push_s limit store (slots_of tree made) p (seg_of at end)) (Err NotAnArray)
    unfolding push_s
    push_clash f = rw (← s.is, e, ← k, ne_eqb q 4 f) (record { says = refl; long = refl; kept = tt })

  pub push_made : (tree' : List ℕ) (g : Result Here Refused) → r ≡ None
      → Grew limit tree tree' made (onward (make_s limit (slots_of tree made) (keyed_slot 4 p (seg_of at end))) (item_s limit)) g
      → Grew limit tree tree' made (push_s limit store (slots_of tree made) p (seg_of at end)) g
  unfolding push_s
  push_made tree' g e w = rw (← s.is, e) w
