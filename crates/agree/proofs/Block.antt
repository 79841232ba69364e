-- A value's slots, one after the other, show the value and all that is in it.
use Rattle.std.specs.Prelude.{ℕ, zero, suc, ◌+◌, ◌-◌, ◌≤◌, ◌<◌, List, [], ◌∷◌, Bool, true, false, ◌≡◌, refl, ◌⊎◌, eqb, ltb}
use Rattle.std.proofs.Math.Option.{Option, none, some}
use Rattle.std.proofs.Common.{sym, ap, subst, ◌∙◌, inl, inr, ⊎_elim, arith, eqb-true, eq-eqb, ne_eqb, ltb-true, ltb-false}
use Rattle.std.proofs.lemmas.Bool.{eqb-false}
use Rattle.meaning.specs.Base.{pick}
use Rattle.meaning.specs.Tree.{Value, Items, str, int, boolean, array, table, none', item, read_as, count as many}
use Rattle.laws.specs.Cases.{on}
use Rattle.tree.specs.declared.Slot.{Slot}
use Rattle.agree.specs.Key.{Key, name, index}
use Rattle.agree.specs.Log.{Log, kind_at, count, test, child, walk, top_is, top_none, test_parent, test_count, child_nothing}
use Rattle.agree.specs.Finds.{get, find, nth}
use Rattle.agree.specs.Meets.{Shows, Meets, Under, slot_of}
use Rattle.agree.specs.Slots.{count_up}
use Rattle.agree.specs.Block.{Goes, Good, Item_at, Laid, LaidAll}

module _ (bytes : List ℕ) (at : ℕ → Slot) where
  mutual
    pub laid_long : (v : Value) (n e : ℕ) → Laid bytes at n v e → n < e
    laid_long (str s) n e h = omega (arith, h.0)
    laid_long (int i) n e h = omega (arith, h.0)
    laid_long (boolean b) n e h = omega (arith, h.0)
    laid_long (array is) n e h = omega (arith, all_long is (n + 2) (n + 1) e h.1)
    laid_long (table t) n e h = absurd h

    pub all_long : (is : Items) (p n e : ℕ) → LaidAll bytes at p n is e → n ≤ e
    all_long none' p n e h = omega (arith, h)
    all_long (item v is) p n e h = omega (arith, laid_long v n h.0 h.2, all_long is p h.0 e h.3)

  mutual
    -- inside, the slots hang under slots that are inside
    pub laid_inner : (v : Value) (n e : ℕ) → Laid bytes at n v e → (m : ℕ) → n < m → m < e → (n + 2 ≤ (at m).parent) × ((at m).parent < e + 2)
    laid_inner (str s) n e h m a b = absurd (omega (arith, h.0))
    laid_inner (int i) n e h m a b = absurd (omega (arith, h.0))
    laid_inner (boolean c) n e h m a b = absurd (omega (arith, h.0))
    laid_inner (array is) n e h m a b =
        ⊎_elim (λ (u : (at m).parent ≡ n + 2). (omega arith, omega arith)) (λ (u : (n + 1 + 2 ≤ (at m).parent) × ((at m).parent < e + 2)). (omega (arith, u.0), u.1))
        (all_inner is (n + 2) (n + 1) e h.1 m (omega arith) b)
    laid_inner (table t) n e h m a b = absurd h

    pub all_inner : (is : Items) (p n e : ℕ) → LaidAll bytes at p n is e → (m : ℕ) → n ≤ m → m < e
        → ((at m).parent ≡ p) ⊎ ((n + 2 ≤ (at m).parent) × ((at m).parent < e + 2))
    all_inner none' p n e h m a b = absurd (omega (arith, h))
    all_inner (item v is) p n e h m a b =
        let x : ℕ = h.0 in
        let l : n < x = laid_long v n x h.2 in
        let k : x ≤ e = all_long is p x e h.3 in
        on (eqb m n)
        (λ c. let d : m ≡ n = eqb-true m n c in inl (ap (λ (z : ℕ). (at z).parent) d ∙ h.1))
        (λ c. on (ltb m x)
        (λ f. let i = laid_inner v n x h.2 m (omega (arith, eqb-false m n c)) (ltb-true m x f) in inr (i.0, omega (arith, i.1)))
        (λ f. ⊎_elim (λ (u : (at m).parent ≡ p). inl u) (λ (u : (x + 2 ≤ (at m).parent) × ((at m).parent < e + 2)). inr (omega (arith, u.0), u.1))
        (all_inner is p x e h.3 m (ltb-false m x f) b)))

-- another room with the same slots, but for where the first hangs, and a longer store
module _ (bytes more : List ℕ) (at bt : ℕ → Slot) (grows : (v : Slot) (u : Value) → Shows bytes v u → Shows more v u) where
  same_shows : (u : Value) (n : ℕ) → (bt n).kind ≡ (at n).kind → (bt n).«data» ≡ (at n).«data» → Shows bytes (at n) u → Shows bytes (bt n) u
  same_shows (str s) n e f h = rw (e, f) h
  same_shows (int i) n e f h = rw (e, f) h
  same_shows (boolean b) n e f h = rw (e, f) h
  same_shows (array is) n e f h = rw e h
  same_shows (table t) n e f h = rw e h

  mutual
    pub laid_move : (v : Value) (n e : ℕ) → ((m : ℕ) → n < m → m < e → bt m ≡ at m) → (bt n).kind ≡ (at n).kind → (bt n).«data» ≡ (at n).«data»
        → Laid bytes at n v e → Laid more bt n v e
    laid_move (str s) n e o k d h = (h.0, grows (bt n) (str s) (same_shows (str s) n k d h.1))
    laid_move (int i) n e o k d h = (h.0, grows (bt n) (int i) (same_shows (int i) n k d h.1))
    laid_move (boolean b) n e o k d h = (h.0, grows (bt n) (boolean b) (same_shows (boolean b) n k d h.1))
    laid_move (array is) n e o k d h = (k ∙ h.0, all_move is (n + 2) (n + 1) e (λ m a b. o m (omega arith) b) h.1)
    laid_move (table t) n e o k d h = h

    pub all_move : (is : Items) (p n e : ℕ) → ((m : ℕ) → n ≤ m → m < e → bt m ≡ at m) → LaidAll bytes at p n is e → LaidAll more bt p n is e
    all_move none' p n e o h = h
    all_move (item v is) p n e o h =
        let x : ℕ = h.0 in
        let l : n < x = laid_long bytes at v n x h.2 in
        let k : x ≤ e = all_long bytes at is p x e h.3 in
        let s : bt n ≡ at n = o n (omega arith) (omega arith) in (
          x,
          ap (λ (w : Slot). w.parent) s ∙ h.1,
          laid_move v n x (λ m a b. o m (omega arith) (omega arith)) (ap (λ (w : Slot). w.kind) s) (ap (λ (w : Slot). w.«data») s) h.2,
          all_move is p x e (λ m a b. o m (omega arith) b) h.3,
        )

count_none : (b : Log) (p n : ℕ) → ((m : ℕ) → m < n → (b.at m).parent ≡ p → ⊥) → count b n p ≡ 0
count_none b p zero d = refl
count_none b p (suc n) d = rw (ne_eqb (b.at n).parent p (d n (omega arith))) (count_none b p n (λ m l. d m (omega arith)))

-- from c on to before c + 1 + k only the first hangs under p
count_over : (b : Log) (p c k : ℕ) → (b.at c).parent ≡ p → ((m : ℕ) → c < m → m < c + suc k → (b.at m).parent ≡ p → ⊥) → count b (c + suc k) p ≡ suc (count b c p)
count_over b p c zero e d =
    let f : c + 1 ≡ suc c = omega arith in rw (f, eq-eqb (b.at c).parent p e)
count_over b p c (suc k) e d =
    let f : c + suc (suc k) ≡ suc (c + suc k) = omega arith in
    rw (f, ne_eqb (b.at (c + suc k)).parent p (d (c + suc k) (omega arith) (omega arith))) (count_over b p c k e (λ m l h. d m l (omega arith)))

module _ (bytes : List ℕ) (b : Log) (n e : ℕ) (early : (m : ℕ) → m ≤ n → n + 2 ≤ (b.at m).parent → e + 2 ≤ (b.at m).parent)
    (outer : (m : ℕ) → e ≤ m → n + 2 ≤ (b.at m).parent → e + 2 ≤ (b.at m).parent) (high : e ≤ b.size) where
  -- the first of the items from number c on, before which the slots hang lower
  first_good : (v : Value) (is : Items) (c x : ℕ) → n + 1 ≤ c → Laid bytes b.at c v x → LaidAll bytes b.at (n + 2) x is e → (b.at c).parent ≡ n + 2
      → ((m : ℕ) → n < m → m < c → (b.at m).parent < c + 2) → Good bytes b c v
  first_good v is c x l h r u low =
      let k : x ≤ e = all_long bytes b.at is (n + 2) x e r in
      let j : c < x = laid_long bytes b.at v c x h in
      record {
        end = x;
        laid = h;
        early = λ m a d. on (ltb n m)
            (λ t. on (eqb m c) (λ w. let z : m ≡ c = eqb-true m c w in absurd (omega (arith, ap (λ (y : ℕ). (b.at y).parent) z)))
            (λ w. absurd (omega (arith, low m (ltb-true n m t) (omega (arith, eqb-false m c w))))))
            (λ t. omega (arith, early m (ltb-false n m t) (omega arith)));
        outer = λ m a d. on (ltb m e)
            (λ t. ⊎_elim (λ (w : (b.at m).parent ≡ n + 2). absurd (omega arith)) (λ (w : (x + 2 ≤ (b.at m).parent) × ((b.at m).parent < e + 2)). w.0)
            (all_inner bytes b.at is (n + 2) x e r m a (ltb-true m e t)))
            (λ t. omega (arith, outer m (ltb-false m e t) (omega arith)));
        high = omega arith;
      }

  over : (v : Value) (c x : ℕ) → n + 1 ≤ c → Laid bytes b.at c v x → (b.at c).parent ≡ n + 2 → count b x (n + 2) ≡ suc (count b c (n + 2))
  over v c x l h u =
      let j : c < x = laid_long bytes b.at v c x h in
      let f : c + suc (x - suc c) ≡ x = omega arith in
      let g : count b (c + suc (x - suc c)) (n + 2) ≡ suc (count b c (n + 2)) =
      count_over b (n + 2) c (x - suc c) u (λ m a d w. let i = laid_inner bytes b.at v c x h m a (omega arith) in omega (arith, i.0)) in
      rw f at g

  next_low : (v : Value) (c x : ℕ) → n + 1 ≤ c → Laid bytes b.at c v x → (b.at c).parent ≡ n + 2 → ((m : ℕ) → n < m → m < c → (b.at m).parent < c + 2)
      → (m : ℕ) → n < m → m < x → (b.at m).parent < x + 2
  next_low v c x l h u low m a d =
      let j : c < x = laid_long bytes b.at v c x h in
      on (ltb m c) (λ t. omega (arith, low m a (ltb-true m c t)))
      (λ t. on (eqb m c) (λ w. let z : m ≡ c = eqb-true m c w in omega (arith, ap (λ (y : ℕ). (b.at y).parent) z))
      (λ w. (laid_inner bytes b.at v c x h m (omega (arith, ltb-false m c t, eqb-false m c w)) d).1))

  item_at : (is : Items) (c i : ℕ) → n + 1 ≤ c → LaidAll bytes b.at (n + 2) c is e → count b c (n + 2) ≡ i → ((m : ℕ) → n < m → m < c → (b.at m).parent < c + 2)
      → (j : ℕ) (v : Value) → nth is j ≡ some v → Item_at bytes b (n + 2) (i + j) v b.size
  item_at none' c i l h k low j v q = let z : ◌≡◌ {A = ℕ} 0 1 = cc in absurd (omega arith)
  item_at (item w is) c i l h k low zero v q =
      let d : w ≡ v = cc in
      let x : ℕ = h.0 in
      let y : x ≤ e = all_long bytes b.at is (n + 2) x e h.3 in
      let j : c < x = laid_long bytes b.at w c x h.2 in
      record {
        number = c;
        under = h.1;
        place = k ∙ omega arith;
        below = omega arith;
        good = subst (λ (u : Value). Good bytes b c u) d (first_good w is c x l h.2 h.3 h.1 low);
      }
  item_at (item w is) c i l h k low (suc j) v q =
      let x : ℕ = h.0 in
      let y : c < x = laid_long bytes b.at w c x h.2 in
      let r : Item_at bytes b (n + 2) (suc i + j) v b.size =
      item_at is x (suc i) (omega arith) h.3 (over w c x l h.2 h.1 ∙ ap suc k) (next_low w c x l h.2 h.1 low) j v q in
      let z : suc i + j ≡ i + suc j = omega arith in
      rw z at r

  all_count : (is : Items) (c : ℕ) → n + 1 ≤ c → LaidAll bytes b.at (n + 2) c is e → count b e (n + 2) ≡ count b c (n + 2) + many is
  all_count none' c l h = ap (λ (z : ℕ). count b z (n + 2)) h ∙ omega arith
  all_count (item v is) c l h =
      let x : ℕ = h.0 in
      let y : c < x = laid_long bytes b.at v c x h.2 in
      omega (arith, all_count is x (omega arith) h.3, over v c x l h.2 h.1)

  module _ (is : Items) (kind : (b.at n).kind ≡ 4) (h : LaidAll bytes b.at (n + 2) (n + 1) is e) where
    start : count b (n + 1) (n + 2) ≡ 0
    start =
        let y : n + 1 ≤ e = all_long bytes b.at is (n + 2) (n + 1) e h in
        count_none b (n + 2) (n + 1) (λ m l d. omega (arith, early m (omega arith) (omega arith)))

    is_array : kind_at b (n + 2) ≡ 4
    is_array = let z : n + 2 ≡ suc (suc n) = omega arith in ap (kind_at b) z ∙ kind

    pub child_item : (j : ℕ) (v : Value) → nth is j ≡ some v → (m : ℕ) × (child bytes b (n + 2) (index j) ≡ m + 2) × Good bytes b m v
    child_item j v q =
        let r : Item_at bytes b (n + 2) (0 + j) v b.size = item_at is (n + 1) 0 (omega arith) h start (λ m a d. absurd (omega arith)) j v q in
        let k : count b r.number (n + 2) ≡ j = r.place ∙ omega arith in
        let t : test bytes b (n + 2) (index j) r.number ≡ true =
        rw (is_array, eq-eqb (b.at r.number).parent (n + 2) r.under) (eq-eqb (count b r.number (n + 2)) j k) in (
          r.number,
          top_is (test bytes b (n + 2) (index j)) b.size r.number t r.below
              (λ m l. on (test bytes b (n + 2) (index j) m)
              (λ u. absurd (omega (arith, test_count bytes b (n + 2) j m u, count_up b (n + 2) r.number m l r.under))) (λ u. u)),
          r.good,
        )

    pub child_none : (j : ℕ) → many is ≤ j → child bytes b (n + 2) (index j) ≡ 0
    child_none j l =
        let y : n + 1 ≤ e = all_long bytes b.at is (n + 2) (n + 1) e h in
        top_none (test bytes b (n + 2) (index j)) b.size
        (λ m c. on (test bytes b (n + 2) (index j) m)
        (λ u. let z : (b.at m).parent ≡ n + 2 = test_parent bytes b (n + 2) (index j) m u in
        let w : count b m (n + 2) ≡ j = test_count bytes b (n + 2) j m u in
        on (ltb m e)
        (λ t. absurd (omega (arith, count_up b (n + 2) m e (ltb-true m e t) z, all_count is (n + 1) (omega arith) h, start)))
        (λ t. absurd (omega (arith, outer m (ltb-false m e t) (omega arith)))))
        (λ u. u))

good_shows : (bytes : List ℕ) (b : Log) (m : ℕ) (v : Value) → Good bytes b m v → Shows bytes (b.at m) v
good_shows bytes b m (str s) g = g.laid.1
good_shows bytes b m (int i) g = g.laid.1
good_shows bytes b m (boolean c) g = g.laid.1
good_shows bytes b m (array is) g = g.laid.0
good_shows bytes b m (table t) g = absurd g.laid

goes_meets : (bytes : List ℕ) (b : Log) (p : ℕ) (o : Option Value) → Goes bytes b p o → Meets bytes b p o
goes_meets bytes b p none h = h
goes_meets bytes b p (some v) h =
    let e : p ≡ suc (suc h.0) = omega (arith, h.1) in
    (omega arith, subst (λ (z : ℕ). Shows bytes (slot_of b z) v) (sym e) (good_shows bytes b h.0 v h.2))

-- nothing stands under what is neither a table nor an array
no_child : (bytes : List ℕ) (b : Log) (p : ℕ) (j : Key) → (kind_at b p ≡ 5 → ⊥) → (kind_at b p ≡ 4 → ⊥) → child bytes b p j ≡ 0
no_child bytes b p (name k) d e = top_none (test bytes b p (name k)) b.size (λ n l. rw (ne_eqb (kind_at b p) 5 d))
no_child bytes b p (index i) d e = top_none (test bytes b p (index i)) b.size (λ n l. rw (ne_eqb (kind_at b p) 4 e))

no_name : (bytes : List ℕ) (b : Log) (p : ℕ) (k : List ℕ) → kind_at b p ≡ 4 → child bytes b p (name k) ≡ 0
no_name bytes b p k e = top_none (test bytes b p (name k)) b.size (λ n l. rw (ne_eqb (kind_at b p) 5 (λ w. omega arith)))

kind_at_lem : (b : Log) (m : ℕ) → kind_at b (m + 2) ≡ (b.at m).kind
kind_at_lem b m = let e : m + 2 ≡ suc (suc m) = omega arith in ap (kind_at b) e

signed_kind : (neg : Bool) (k : ℕ) → k ≡ pick neg 6 2 → ((k ≡ 5 → ⊥) × (k ≡ 4 → ⊥))
signed_kind true k e = (λ f. omega arith, λ f. omega arith)
signed_kind false k e = (λ f. omega arith, λ f. omega arith)

module _ (bytes : List ℕ) (b : Log) (m : ℕ) where
  leaf : (j : Key) (k : ℕ) → (b.at m).kind ≡ k → (k ≡ 5 → ⊥) → (k ≡ 4 → ⊥) → child bytes b (m + 2) j ≡ 0
  leaf j k e d f = no_child bytes b (m + 2) j (λ w. d (sym e ∙ sym (kind_at_lem b m) ∙ w)) (λ w. f (sym e ∙ sym (kind_at_lem b m) ∙ w))

  item_goes : (is : Items) (i : ℕ) → Good bytes b m (array is) → (o : Option Value) → nth is i ≡ o → Goes bytes b (child bytes b (m + 2) (index i)) o
  item_goes is i g none e = child_none bytes b m g.end g.early g.outer g.high is g.laid.0 g.laid.1 i (beyond_all is i e)
    where
      beyond_all : (is : Items) (i : ℕ) → nth is i ≡ none → many is ≤ i
      beyond_all none' i e = omega arith
      beyond_all (item v is) zero e = let z : ◌≡◌ {A = ℕ} 0 1 = cc in absurd (omega arith)
      beyond_all (item v is) (suc i) e = omega (arith, beyond_all is i e)
  item_goes is i g (some v) e = child_item bytes b m g.end g.early g.outer g.high is g.laid.0 g.laid.1 i v e

  child_goes : (v : Value) (j : Key) → Good bytes b m v → Goes bytes b (child bytes b (m + 2) j) (get v j)
  child_goes (str s) j g = leaf j 1 g.laid.1.0 (λ w. omega arith) (λ w. omega arith)
  child_goes (int i) j g =
      let k = signed_kind g.laid.1.0 (b.at m).kind g.laid.1.1 in leaf j (b.at m).kind refl k.0 k.1
  child_goes (boolean c) j g = leaf j 3 g.laid.1.0 (λ w. omega arith) (λ w. omega arith)
  child_goes (array is) (name k) g = no_name bytes b (m + 2) k (kind_at_lem b m ∙ g.laid.0)
  child_goes (array is) (index i) g = item_goes is i g (nth is i) refl
  child_goes (table t) j g = absurd g.laid

step_goes : (bytes : List ℕ) (b : Log) (p : ℕ) (o : Option Value) (j : Key) → Goes bytes b p o → Goes bytes b (child bytes b p j) (read_as (λ v. get v j) o)
step_goes bytes b p none j h = rw h (child_nothing bytes b j)
step_goes bytes b p (some v) j h =
    subst (λ (z : ℕ). Goes bytes b (child bytes b z j) (get v j)) (sym h.1) (child_goes bytes b h.0 v j h.2)

walk_goes : (bytes : List ℕ) (b : Log) (n : ℕ) (v : Value) → Good bytes b n v → (r : List Key) → Goes bytes b (walk bytes b (n + 2) r) (find (some v) r)
walk_goes bytes b n v g [] = (n, refl, g)
walk_goes bytes b n v g (j ∷ r) = step_goes bytes b (walk bytes b (n + 2) r) (find (some v) r) j (walk_goes bytes b n v g r)

-- the theorem of values: a value's slots show it and all that is in it
pub good_under : (bytes : List ℕ) (b : Log) (n : ℕ) (v : Value) → Good bytes b n v → Under bytes b n v
good_under bytes b n v g r = goes_meets bytes b (walk bytes b (n + 2) r) (find (some v) r) (walk_goes bytes b n v g r)
