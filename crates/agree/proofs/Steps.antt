-- The rooms agree with the tree of 01, and go on agreeing when a table, an array or an item is made.
use Prim.Native.Nat.{ℕ, zero, suc, ◌+◌, ◌≤◌, ◌<◌}
use Rattle.std.specs.Prelude.{List, [], ◌∷◌, ◌++◌, ◌≡◌, eqb, ltb, get_or}
use Rattle.std.proofs.Math.Bool.{true}
use Rattle.std.proofs.Math.Option.{Option, none, some}
use Rattle.std.proofs.Math.Path.{refl}
use Rattle.std.proofs.Common.{sym, ap, subst, ◌∙◌, arith}
use Rattle.std.proofs.Math.ListN.{length}
use borrow.Author.Tests.{eqb-true, eqb-false, eq-eqb, ltb-true, ltb-false}
use Rattle.meaning.specs.Tree.{Value, Items, Table, array, table, none', item, read_as, count as many}
use Rattle.laws.specs.Cases.{on}
use Rattle.tree.specs.declared.Slot.{Slot}
use Rattle.values.specs.Grow.{void}
use Rattle.agree.specs.Key.{Key, name, index}
use Rattle.agree.specs.Log.{kind_at, count, test, walk, top_nonzero, test_kind, test_parent, test_count, reached, Reached, walk_new, walk_else}
use Rattle.agree.specs.Paths.{shorter}
use Rattle.agree.specs.Finds.{get, find, set_at, Takes, nth, nth_beyond}
use Rattle.agree.specs.Meets.{Shows, Meets}
use Rattle.agree.proofs.Meets.{kind_of_lem, shown_hung, under_bare, walk_bare}
use Rattle.agree.specs.Slots.{log_of, get_or_more, get_or_last, length_more, Fit, hung_more, count_up, Nth, nth_slot}
use Rattle.agree.specs.Steps.{Agree, Calm, Sealed, to}

pub to_low : (bytes : List ℕ) (vs : List Slot) (q : List Key) → to bytes vs q < length vs + 2
to_low bytes vs [] = omega arith
to_low bytes vs (j ∷ q) =
    on (eqb (to bytes vs (j ∷ q)) 0)
    (λ e. omega (arith, eqb-true (to bytes vs (j ∷ q)) 0 e))
    (λ e. let r : Reached bytes (log_of vs) (to bytes vs q) j = reached bytes (log_of vs) (to bytes vs q) j (eqb-false (to bytes vs (j ∷ q)) 0 e) in
    omega (arith, r.is, r.below))

module _ (bytes : List ℕ) (vs : List Slot) (x : Value) (a : Agree bytes vs x) (q : List Key) where
  pub meets_some : (v : Value) → find (some x) q ≡ some v → Meets bytes (log_of vs) (to bytes vs q) (some v)
  meets_some v e = subst (λ (o : Option Value). Meets bytes (log_of vs) (to bytes vs q) o) e (a.shown q)

  pub meets_none : find (some x) q ≡ none → to bytes vs q ≡ 0
  meets_none e = subst (λ (o : Option Value). Meets bytes (log_of vs) (to bytes vs q) o) e (a.shown q)

  pub table_at_lem : (t : Table) → find (some x) q ≡ some (table t) → kind_at (log_of vs) (to bytes vs q) ≡ 5
  table_at_lem t e = sym (kind_of_lem (log_of vs) (to bytes vs q)) ∙ (meets_some (table t) e).1

  pub array_at : (t : Items) → find (some x) q ≡ some (array t) → kind_at (log_of vs) (to bytes vs q) ≡ 4
  array_at t e = sym (kind_of_lem (log_of vs) (to bytes vs q)) ∙ (meets_some (array t) e).1

-- so no path leads to them
pub sealed_off : (bytes : List ℕ) (vs : List Slot) (n e : ℕ) → Sealed n e vs → (q : List Key) → n + 2 ≤ to bytes vs q → e + 2 ≤ to bytes vs q
sealed_off bytes vs n e h [] l = absurd (omega arith)
sealed_off bytes vs n e h (j ∷ q) l =
    let r : Reached bytes (log_of vs) (to bytes vs q) j = reached bytes (log_of vs) (to bytes vs q) j (λ z. omega arith) in
    let u : (get_or vs r.number void).parent ≡ to bytes vs q = test_parent bytes (log_of vs) (to bytes vs q) j r.number r.holds in
    let o : 1 ≤ to bytes vs q = test_kind bytes (log_of vs) (to bytes vs q) j r.number r.holds in
    on (ltb r.number e)
    (λ c. let i = h.inner r.number (omega (arith, r.is)) (ltb-true r.number e c) (omega arith) in
    absurd (omega (arith, i.0, i.1, sealed_off bytes vs n e h q (omega (arith, i.0)))))
    (λ c. omega (arith, ltb-false r.number e c, r.is))

-- ---- a slot made

fit_there : (bytes : List ℕ) (vs : List Slot) (s : Slot) (p : ℕ) (k : Key) → Fit bytes vs s p k → 1 ≤ p
fit_there bytes vs s zero (name k) f = absurd (omega (arith, f.0))
fit_there bytes vs s zero (index i) f = absurd (omega (arith, f.0))
fit_there bytes vs s (suc p) k f = omega arith

module _ (bytes : List ℕ) (vs : List Slot) (x : Value) (a : Agree bytes vs x) (g : List Key) (k : Key) (s : Slot) (u : Value)
    (at : s.parent ≡ to bytes vs g) (fit : Fit bytes vs s (to bytes vs g) k) (takes : Takes (find (some x) g) k)
    (bare : (j : Key) → get u j ≡ none) (shows : Shows bytes s u) (keyed-in : s.key + s.len ≤ length bytes) where
  more : List Slot
  more = vs ++ (s ∷ [])

  more_low : (n : ℕ) → (get_or more n void).parent < length vs + 2
  unfolding more
  more_low n =
      on (eqb n (length vs))
      (λ e. let d : n ≡ length vs = eqb-true n (length vs) e in rw (d, get_or_last vs s) (omega (arith, to_low bytes vs g)))
      (λ e. rw (get_or_more vs s n (eqb-false n (length vs) e)) (a.low n))

  more_within : (n : ℕ) → (get_or more n void).key + (get_or more n void).len ≤ length bytes
  unfolding more
  more_within n =
      on (eqb n (length vs))
      (λ e. let d : n ≡ length vs = eqb-true n (length vs) e in rw (d, get_or_last vs s) keyed-in)
      (λ e. rw (get_or_more vs s n (eqb-false n (length vs) e)) (a.within n))

  -- nothing hangs under what was just made
  pub made_bare : (n : ℕ) → (get_or (vs ++ (s ∷ [])) n void).parent ≡ length vs + 2 → ⊥
  unfolding more
  made_bare n e = omega (arith, more_low n)

  pub agree_more : Agree bytes (vs ++ (s ∷ [])) (set_at x (k ∷ g) u)
  unfolding more
  agree_more =
      record {
        shown = shown_hung bytes (log_of vs) (log_of (vs ++ (s ∷ []))) (length vs) (to bytes vs g) k g x u a.shown
            (hung_more bytes vs s (to bytes vs g) at (fit_there bytes vs s (to bytes vs g) k fit) (to_low bytes vs g) k fit) refl takes
            (under_bare bytes (log_of (vs ++ (s ∷ []))) (length vs) u made_bare bare (subst (λ (v : Slot). Shows bytes v u) (sym (get_or_last vs s)) shows));
        within = more_within;
        low = λ n. omega (arith, more_low n, length_more vs s);
      }

  -- the new path leads to it, and nothing is reached after it
  pub leads_more : (r : List Key) → to bytes (vs ++ (s ∷ [])) (r ++ (k ∷ g)) ≡ walk bytes (log_of (vs ++ (s ∷ []))) (length vs + 2) r
  leads_more r =
      walk_new bytes (log_of vs) (log_of (vs ++ (s ∷ []))) (length vs) (to bytes vs g) k
      (hung_more bytes vs s (to bytes vs g) at (fit_there bytes vs s (to bytes vs g) k fit) (to_low bytes vs g) k fit) g refl r

  -- shorter paths lead where they led
  pub kept_more : (q : List Key) → length q ≤ length g → to bytes (vs ++ (s ∷ [])) q ≡ to bytes vs q
  kept_more q l =
      walk_else bytes (log_of vs) (log_of (vs ++ (s ∷ []))) (length vs) (to bytes vs g) k
      (hung_more bytes vs s (to bytes vs g) at (fit_there bytes vs s (to bytes vs g) k fit) (to_low bytes vs g) k fit) g refl q
      (shorter (k ∷ g) q (omega arith))

  pub calm_more : (n : ℕ) → Calm bytes (vs ++ (s ∷ [])) n (k ∷ g)
  calm_more n m l [] e = absurd (made_bare m (e ∙ leads_more []))
  calm_more n m l (j ∷ r) e = leads_more (j ∷ r) ∙ walk_bare bytes (log_of (vs ++ (s ∷ []))) (length vs) u made_bare r j

  pub sealed_more : (n e : ℕ) → e ≤ length vs → Sealed n e vs → Sealed n e (vs ++ (s ∷ []))
  sealed_more n e l h =
      record {
        order = h.order;
        before = λ m c. rw (get_or_more vs s m (λ w. omega (arith, h.order))) (h.before m c);
        inner = λ m c d. rw (get_or_more vs s m (λ w. omega arith)) (h.inner m c d);
        after = λ m c. on (eqb m (length vs))
            (λ w. let d : m ≡ length vs = eqb-true m (length vs) w in
            rw (d, get_or_last vs s) (λ z. omega (arith, sealed_off bytes vs n e h g (omega arith))))
            (λ w. rw (get_or_more vs s m (eqb-false m (length vs) w)) (h.after m c));
      }

-- ---- an array has as many items as slots hang under it

nth_some : (a : Items) (i : ℕ) → i < many a → (v : Value) × (nth a i ≡ some v)
nth_some none' i l = absurd (omega arith)
nth_some (item v is) zero l = (v, refl)
nth_some (item v is) (suc i) l = nth_some is i (omega arith)

module _ (bytes : List ℕ) (vs : List Slot) (x : Value) (a : Agree bytes vs x) (g : List Key) (is : Items) (e : find (some x) g ≡ some (array is)) where
  p : ℕ
  p = to bytes vs g

  found_item : (i : ℕ) → find (some x) (index i ∷ g) ≡ nth is i
  found_item i = ap (read_as (λ v. get v (index i))) e

  not_more : many is < count (log_of vs) (length vs) p → ⊥
  unfolding p
  not_more l =
      let n : Nth (log_of vs) p (many is) (length vs) = nth_slot (log_of vs) p (many is) (length vs) l in
      let t : test bytes (log_of vs) p (index (many is)) n.number ≡ true =
      rw (array_at bytes vs x a g is e, eq-eqb (get_or vs n.number void).parent p n.under) (eq-eqb (count (log_of vs) n.number p) (many is) n.place) in
      top_nonzero (test bytes (log_of vs) p (index (many is))) (length vs) n.number t n.low
      (meets_none bytes vs x a (index (many is) ∷ g) (found_item (many is) ∙ nth_beyond is (many is) (omega arith)))

  not_less : count (log_of vs) (length vs) p < many is → ⊥
  unfolding p
  not_less l =
      let c : ℕ = count (log_of vs) (length vs) p in
      let v = nth_some is c l in
      let m = meets_some bytes vs x a (index c ∷ g) v.0 (found_item c ∙ v.1) in
      let r : Reached bytes (log_of vs) p (index c) = reached bytes (log_of vs) p (index c) (λ z. omega (arith, m.0)) in
      omega (arith, count_up (log_of vs) p r.number (length vs) r.below (test_parent bytes (log_of vs) p (index c) r.number r.holds), test_count bytes (log_of vs) p c r.number r.holds)

  pub items_count : many is ≡ count (log_of vs) (length vs) (to bytes vs g)
  unfolding p
  items_count =
      on (ltb (many is) (count (log_of vs) (length vs) p)) (λ t. absurd (not_more (ltb-true (many is) (count (log_of vs) (length vs) p) t)))
      (λ t. on (ltb (count (log_of vs) (length vs) p) (many is)) (λ r. absurd (not_less (ltb-true (count (log_of vs) (length vs) p) (many is) r)))
      (λ r. omega (arith, ltb-false (many is) (count (log_of vs) (length vs) p) t, ltb-false (count (log_of vs) (length vs) p) (many is) r)))
