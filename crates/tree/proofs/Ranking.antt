-- The next key: what each test says, what the loop keeps, and one law for each way on and out of it.
use Prim.Native.Nat.{ℕ, zero, suc, ◌+◌, ◌-◌, ◌≤◌, ◌<◌}
use mathlib.Core.Bool.{Bool, true, false}
use mathlib.Core.List.{List}
use mathlib.Core.Path.{◌≡◌, refl, sym, ap, ◌∙◌}
use native.Mathlib.Omega.{arith}
use borrow.Author.Tests.{le-leb, lt-leb}
use lib.Dec.{leb, ltb}
use lib.ListN.{length, take, drop}
use Rattle.meaning.specs.Base.{less}
use Rattle.tree.specs.declared.Slot.{Slot}
use Rattle.std.specs.Prelude.{Option, Some, None}
use Rattle.tree.specs.Room.{Holds, Clear, From, Below, Finds, slot_at, under}
use Rattle.tree.specs.Order.{has_key, before, above, nearer, follows, better, nearest, is_made, next, Stands}
use Rattle.tree.specs.Nearest.{better_below, made_below}

-- ---- one value
pub key_is_lem : (store : List ℕ) (v : Slot) → leb (v.key + v.len) (length store) ≡ has_key store v
unfolding has_key
key_is_lem store v = refl

module _ (store : List ℕ) (v w : Slot) where
  pub past_left : length store < v.key + v.len → false ≡ before store v w
  unfolding before has_key
  past_left h = rw (lt-leb (v.key + v.len) (length store) h)

  pub past_right : v.key + v.len ≤ length store → length store < w.key + w.len → false ≡ before store v w
  unfolding before has_key
  past_right h k = rw (le-leb (v.key + v.len) (length store) h, lt-leb (w.key + w.len) (length store) k)

  pub before_is : (r : Bool) → v.key + v.len ≤ length store → w.key + w.len ≤ length store
      → r ≡ less (take (v.key + v.len - v.key) (drop v.key store)) (take (w.key + w.len - w.key) (drop w.key store)) → r ≡ before store v w
  unfolding before has_key
  before_is r h k e = rw (le-leb (v.key + v.len) (length store) h, le-leb (w.key + w.len) (length store) k) e

module _ (tree store : List ℕ) (v : Slot) (f : Option ℕ) (r : Bool) where
  pub above_at : (n : ℕ) (w : Slot) → f ≡ Some n → w ≡ slot_at tree n → r ≡ before store w v → r ≡ above (slot_at tree) store f v
  above_at n w e g h = rw e (h ∙ ap (λ (x : Slot). before store x v) g)

  pub above_all : f ≡ None → r ≡ has_key store v → r ≡ above (slot_at tree) store f v
  above_all e h = rw e h

  pub nearer_at : (n : ℕ) (w : Slot) → f ≡ Some n → w ≡ slot_at tree n → r ≡ before store v w → r ≡ nearer (slot_at tree) store f v
  nearer_at n w e g h = rw e (h ∙ ap (λ (x : Slot). before store v x) g)

pub nearer_all : (tree store : List ℕ) (v : Slot) (f : Option ℕ) → f ≡ None → true ≡ nearer (slot_at tree) store f v
nearer_all tree store v f e = rw e

pub stands_holds : (tree : List ℕ) (n : ℕ) (f : Option ℕ) → Stands tree f → f ≡ Some n → Holds tree (n + 1)
stands_holds tree n f h e = rw e at h

module _ (tree store : List ℕ) (parent n : ℕ) (after : Option ℕ) (r : Bool) where
  pub follows_not : r ≡ under tree n parent → r ≡ false → false ≡ follows (slot_at tree) store parent after n
  unfolding follows under
  follows_not e f = rw (← e, f)

  pub follows_is : (v : Slot) (q : Bool) → r ≡ under tree n parent → r ≡ true → v ≡ slot_at tree n → q ≡ above (slot_at tree) store after v
      → q ≡ follows (slot_at tree) store parent after n
  unfolding follows under
  follows_is v q e f g h = rw (← e, f) (h ∙ ap (above (slot_at tree) store after) g)

module _ (tree store : List ℕ) (parent n : ℕ) (after best : Option ℕ) (r : Bool) (e : r ≡ follows (slot_at tree) store parent after n) where
  pub better_not : r ≡ false → best ≡ better (slot_at tree) store parent after best n
  unfolding better
  better_not f = rw (← e, f)

  module _ (v : Slot) (q : Bool) (f : r ≡ true) (g : v ≡ slot_at tree n) (k : q ≡ nearer (slot_at tree) store best v) where
    is_nearer : q ≡ nearer (slot_at tree) store best (slot_at tree n)
    is_nearer = k ∙ ap (nearer (slot_at tree) store best) g

    pub better_it : q ≡ true → Some n ≡ better (slot_at tree) store parent after best n
    unfolding better
    better_it t = rw (← e, f, ← is_nearer, t)

    pub better_best : q ≡ false → best ≡ better (slot_at tree) store parent after best n
    unfolding better
    better_best t = rw (← e, f, ← is_nearer, t)

-- ---- the loop
pub record Nearing (tree store : List ℕ) (made parent : ℕ) (after best : Option ℕ) (i : ℕ) : Type 0 where
  pub high : i ≤ made
  pub below : Below made best
  pub left : nearest (slot_at tree) store parent after i best ≡ nearest (slot_at tree) store parent after made None

-- what is made stands in the room
stands_made : (tree : List ℕ) (made : ℕ) (f : Option ℕ) → Holds tree made → Below made f → Stands tree f
stands_made tree made (Some n) h l = record { fits = omega (arith, h.fits) }
stands_made tree made None h l = tt

from_zero : (f : Option ℕ) → From 0 f
from_zero (Some n) = omega arith
from_zero None = tt

-- where nothing hangs under the parent, the best stays
nearest_clear : (tree store : List ℕ) (parent : ℕ) (after : Option ℕ) (i : ℕ) (best : Option ℕ) → ((j : ℕ) → j < i → under tree j parent ≡ false)
    → nearest (slot_at tree) store parent after i best ≡ best
nearest_clear tree store parent after zero best h = refl
nearest_clear tree store parent after (suc n) best h =
    let f : false ≡ follows (slot_at tree) store parent after n = follows_not tree store parent n after false (sym (h n (omega arith))) refl in
    let b : best ≡ better (slot_at tree) store parent after best n = better_not tree store parent n after best false f refl in
    rw (← b) (nearest_clear tree store parent after n best (λ (j : ℕ). λ (l : j < n). h j (omega arith)))

module _ (tree store : List ℕ) (made parent : ℕ) (after : Option ℕ) where
  pub near_start : Nearing tree store made parent after None made
  near_start = record { high = omega arith; below = tt; left = refl }

  module _ (best : Option ℕ) (i : ℕ) (k : Nearing tree store made parent after best i) where
    pub near_room : (low : ℕ) → Holds tree made → low < i → Holds tree (i - 1 + 1)
    near_room low h l = record { fits = omega (arith, h.fits, k.high) }

    pub near_best : Holds tree made → Stands tree best
    near_best h = stands_made tree made best h k.below

    pub near_end : (low : ℕ) → Clear tree parent 0 low → i ≤ low → Finds 0 made (nearest (slot_at tree) store parent after made None) best
    near_end low c l =
        let e : nearest (slot_at tree) store parent after i best ≡ best
        = nearest_clear tree store parent after i best (λ (j : ℕ). λ (h : j < i). c.none j (omega arith) (omega arith)) in
        record { is = sym e ∙ k.left; from = from_zero best; below = k.below }

  pub near_on : (low : ℕ) (best : Option ℕ) (i : ℕ) (r : Option ℕ) → Nearing tree store made parent after best i → low < i → r ≡ better (slot_at tree) store parent after best (i - 1)
      → Nearing tree store made parent after r (i - 1)
  near_on low best zero r k l b = absurd (omega arith)
  near_on low best (suc i) r k l b =
      let d : suc i - 1 ≡ i = omega arith in
      let e : r ≡ better (slot_at tree) store parent after best i = b ∙ ap (better (slot_at tree) store parent after best) d in
      record {
        high = omega (arith, k.high);
        below = rw e (better_below (slot_at tree) store made parent i after best (omega (arith, k.high)) k.below);
        left = rw d (ap (nearest (slot_at tree) store parent after i) e ∙ k.left);
      }

-- ---- from the value found before
pub made_at : (made n : ℕ) (f : Option ℕ) → f ≡ Some n → ltb n made ≡ is_made made f
made_at made n f e = rw e

pub made_none : (made : ℕ) (f : Option ℕ) → f ≡ None → true ≡ is_made made f
made_none made f e = rw e

module _ (tree store : List ℕ) (made parent : ℕ) (after : Option ℕ) (r : Bool) (e : r ≡ is_made made after) where
  pub made_stands : Holds tree made → r ≡ true → Stands tree after
  made_stands h t = stands_made tree made after h (made_below made after (sym e ∙ t))

  pub next_is : (q : Option ℕ) → r ≡ true → Finds 0 made (nearest (slot_at tree) store parent after made None) q → Finds 0 made (next (slot_at tree) store made parent after) q
  unfolding next
  next_is q t b = record { is = rw (← e, t) b.is; from = b.from; below = b.below }

  pub next_none : r ≡ false → Finds 0 made (next (slot_at tree) store made parent after) None
  unfolding next
  next_none t = record { is = rw (← e, t); from = tt; below = tt }
