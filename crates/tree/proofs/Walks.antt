-- Searching and counting: what each test says, what each loop keeps, and one law for each way on and out of it.
use Prim.Native.Nat.{ℕ, suc, ◌+◌, ◌*◌, ◌-◌, ◌≤◌, ◌<◌}
use mathlib.Core.Bool.{Bool, true, false}
use mathlib.Core.List.{List}
use mathlib.Core.Path.{◌≡◌, sym, ap, ◌∙◌}
use native.Mathlib.Omega.{arith}
use native.Mathlib.Numerals.{add-one}
use borrow.Author.Tests.{leb-true, le-leb, lt-leb}
use lib.Dec.{eqb, leb}
use lib.ListN.{length, take, drop, length-drop}
use lib.Seq.{length-take-le}
use Rattle.meaning.specs.Base.{part, same}
use Rattle.laws.specs.Cases.{on}
use Rattle.laws.specs.Order.{same_eq}
use Rattle.slices.specs.Numbers.{number}
use Rattle.tree.specs.declared.Slot.{Slot}
use Rattle.std.specs.Prelude.{Some, None}
use Rattle.tree.specs.Room.{Holds, slot_at, under, keyed, mine, first, child, count, Finds, Counts}

-- ---- one value
pub under_is : (tree : List ℕ) (n parent q : ℕ) → q ≡ number 2 tree (32 * n + 2) → eqb q parent ≡ under tree n parent
unfolding under slot_at
under_is tree n parent q e = rw e

pub keyed_other : (store key : List ℕ) (v : Slot) → (v.len ≡ length key → ⊥) → false ≡ keyed store v key
unfolding keyed
keyed_other store key v h =
    on (leb (v.key + v.len) (length store))
    (λ e.
    let l : v.key + v.len ≤ length store = leb-true (v.key + v.len) (length store) e in
    on (same (part v.key (v.key + v.len) store) key)
    (λ t.
    let n : length (part v.key (v.key + v.len) store) ≡ length key = ap length (same_eq (part v.key (v.key + v.len) store) key t) in
    let m : length (take (v.key + v.len - v.key) (drop v.key store)) ≡ v.key + v.len - v.key
    = length-take-le (v.key + v.len - v.key) (drop v.key store) (omega (arith, length-drop v.key store)) in
    absurd (h (omega (arith, n, m))))
    (λ t. rw (e, t)))
    (λ e. rw e)

pub keyed_past : (store key : List ℕ) (v : Slot) → length store < v.key + v.len → false ≡ keyed store v key
unfolding keyed
keyed_past store key v h = rw (lt-leb (v.key + v.len) (length store) h)

pub keyed_is : (store key : List ℕ) (v : Slot) (r : Bool) → v.key + v.len ≤ length store
    → r ≡ same (take (v.key + v.len - v.key) (drop v.key store)) key → r ≡ keyed store v key
unfolding keyed
keyed_is store key v r h e = rw (le-leb (v.key + v.len) (length store) h) e

pub mine_other : (tree store key : List ℕ) (n parent q : ℕ) → q ≡ number 2 tree (32 * n + 6) → (q ≡ length key → ⊥) → false ≡ mine tree store n parent key
unfolding mine slot_at
mine_other tree store key n parent q e h =
    let o : false ≡ keyed store (slot_at tree n) key = keyed_other store key (slot_at tree n) (λ f. h (e ∙ f)) in
    on (under tree n parent) (λ t. rw t o) (λ t. rw t)

module _ (tree store key : List ℕ) (n parent : ℕ) (r : Bool) where
  pub mine_not : r ≡ under tree n parent → r ≡ false → false ≡ mine tree store n parent key
  unfolding mine
  mine_not e f = rw (← e, f)

  pub mine_is : (v : Slot) (q : Bool) → r ≡ under tree n parent → r ≡ true → v ≡ slot_at tree n → q ≡ keyed store v key → q ≡ mine tree store n parent key
  unfolding mine
  mine_is v q e f g h = rw (← e, f) (h ∙ ap (λ (w : Slot). keyed store w key) g)

-- there is room for fewer
pub holds_next : (room : List ℕ) (made i : ℕ) → Holds room made → i < made → Holds room (i + 1)
holds_next room made i h l = record { fits = omega (arith, h.fits) }

-- ---- child
pub record Walking (tree : List ℕ) (made parent from i : ℕ) : Type 0 where
  pub low : from ≤ i
  pub left : first tree parent (made - i) i ≡ child tree made parent from

module _ (tree : List ℕ) (made parent from : ℕ) where
  module _ (i : ℕ) (r : Bool) where
    pub walk_on : Walking tree made parent from i → i < made → r ≡ under tree i parent → r ≡ false → Walking tree made parent from (i + 1)
    walk_on k h e f =
        let d : made - i ≡ suc (made - (i + 1)) = omega arith in
        let m : under tree i parent ≡ false = sym e ∙ f in
        record { low = omega arith; left = rw (d, m) at k.left }

    pub walk_hit : Walking tree made parent from i → i < made → r ≡ under tree i parent → r ≡ true → Finds from made (child tree made parent from) (Some i)
    walk_hit k h e f =
        let d : made - i ≡ suc (made - (i + 1)) = omega arith in
        let m : under tree i parent ≡ true = sym e ∙ f in
        record { is = rw (d, m) at k.left; from = k.low; below = h }

  pub walk_end : (i : ℕ) → Walking tree made parent from i → made ≤ i → Finds from made (child tree made parent from) None
  walk_end i k h =
      let d : made - i ≡ 0 = omega arith in
      record { is = rw d at k.left; from = tt; below = tt }

-- ---- count
pub record Counting (tree : List ℕ) (made parent n i : ℕ) : Type 0 where
  pub high : i ≤ made
  pub most : n ≤ i
  pub left : n ≡ count tree i parent

module _ (tree : List ℕ) (made parent n i : ℕ) (r : Bool) where
  pub count_hit : Counting tree made parent n i → i < made → r ≡ under tree i parent → r ≡ true → Counting tree made parent (n + 1) (i + 1)
  count_hit k h e f =
      let m : under tree i parent ≡ true = sym e ∙ f in
      record { high = omega arith; most = omega arith; left = rw (add-one i, m) (ap (λ (x : ℕ). x + 1) k.left) }

  pub count_on : Counting tree made parent n i → i < made → r ≡ under tree i parent → r ≡ false → Counting tree made parent n (i + 1)
  count_on k h e f =
      let m : under tree i parent ≡ false = sym e ∙ f in
      record { high = omega arith; most = omega arith; left = rw (add-one i, m) k.left }

pub count_end : (tree : List ℕ) (made parent n i : ℕ) → Counting tree made parent n i → made ≤ i → Counts tree made parent n
count_end tree made parent n i k h =
    let e : i ≡ made = omega arith in
    record { is = rw e at k.left; fits = omega arith }
